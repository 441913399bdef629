use Rattle.std.proofs.Common.{sym, rules}
use Rattle.gl_logic.specs.TermOf.{term_of}
use Rattle.admission.specs.Admitted.{refused_alone, number_for_first}
use Rattle.admission.proofs.LoneDefinitions.{some_refused, formal_hit, formal_miss}
use Rattle.admission.proofs.single_definition.default_measure.Goals as goal

pub returns-in-Ok : goal.returns-in-Ok
returns-in-Ok c =
    let formals = c.args.formals.now in
    let refused = refused_alone c.args.f.number formals (term_of c.args.body.now) in
    sym (formal_hit refused (number_for_first refused formals) formals c.loop-i.i c.at.result.now.number _ c.at.ensures c.in-Ok.ensures c.loop-i.invariant)

pub loop-i-preserved : goal.loop-i-preserved
loop-i-preserved c =
    let formals = c.args.formals.now in
    let refused = refused_alone c.args.f.number formals (term_of c.args.body.now) in
    formal_miss refused (number_for_first refused formals) formals c.loop-i.i c.at.result.now.number c.in-Err-NotAdmitted.field-0-0 _ c.at.ensures (some_refused c.args.f.number c.args.formals.now (term_of c.args.body.now) _ c.in-Err-NotAdmitted.field-0 c.in-Err-NotAdmitted.field-0-0 (search rules) c.in-Err-NotAdmitted.ensures) c.loop-i.invariant
