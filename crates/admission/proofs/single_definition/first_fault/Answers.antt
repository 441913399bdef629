use Rattle.std.proofs.Common.{◌∙◌, ap, ℕ, Option, Err}
use Rattle.std.specs.Prelude.{unwrap_or}
use Rattle.gl_logic.specs.TermOf.{term_of}
use Rattle.admission.specs.Admitted.{refused_alone}
use Rattle.admission.proofs.LoneDefinitions.{number_first, first_told}
use Rattle.admission.proofs.single_definition.first_fault.Goals as goal

pub returns-in-Ok : goal.returns-in-Ok
returns-in-Ok c =
    let formals = c.args.formals.now in
    let refused = refused_alone c.args.f.number formals (term_of c.args.body.now) in
    ap Err (number_first refused formals c.at.result.now.number c.at.ensures ∙ ap (λ (o : Option ℕ). unwrap_or o 1) c.in-Ok.ensures)

pub returns-in-Err : goal.returns-in-Err
returns-in-Err c =
    let formals = c.args.formals.now in
    let refused = refused_alone c.args.f.number formals (term_of c.args.body.now) in
    first_told c.args.f.number formals (term_of c.args.body.now) _ _ c.in-Err.fault (number_first refused formals c.at.result.now.number c.at.ensures) c.in-Err.ensures
