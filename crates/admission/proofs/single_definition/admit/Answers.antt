use Rattle.std.proofs.Common.{refl, rules, None}
use Rattle.gl_logic.specs.TermOf.{term_of}
use Rattle.admission.proofs.LoneDefinitions.{no_calls, none_refused, verdict_none, some_refused, told_none, told_admissible, told_verdict}
use Rattle.admission.proofs.single_definition.admit.Goals as goal

pub returns-in-Ok-clause-none : goal.returns-in-Ok-clause-none
returns-in-Ok-clause-none c = (λ e. no_calls c.args.f.number c.args.formals.now (term_of c.args.body.now) c.in-Ok.ensures, λ e. refl)

pub returns-in-Ok-clause-admissible : goal.returns-in-Ok-clause-admissible
returns-in-Ok-clause-admissible c = λ name. none_refused c.args.f.number name c.args.formals.now (term_of c.args.body.now) None c.in-Ok.ensures

pub returns-in-Ok-clause-verdict : goal.returns-in-Ok-clause-verdict
returns-in-Ok-clause-verdict c = verdict_none c.args.f.number c.args.formals.now (term_of c.args.body.now) c.args.stated c.in-Ok.ensures

pub returns-in-Err-NotAdmitted-clause-none : goal.returns-in-Err-NotAdmitted-clause-none
returns-in-Err-NotAdmitted-clause-none c = told_none c.args.f.number c.args.formals.now (term_of c.args.body.now) c.args.stated c.in-Err-NotAdmitted.field-0-0 (some_refused c.args.f.number c.args.formals.now (term_of c.args.body.now) _ c.in-Err-NotAdmitted.field-0 c.in-Err-NotAdmitted.field-0-0 (search rules) c.in-Err-NotAdmitted.ensures) c.measured.result c.measured.ensures

pub returns-in-Err-NotAdmitted-clause-admissible : goal.returns-in-Err-NotAdmitted-clause-admissible
returns-in-Err-NotAdmitted-clause-admissible c = told_admissible c.args.f.number c.args.formals.now (term_of c.args.body.now) c.args.stated c.in-Err-NotAdmitted.field-0-0 (some_refused c.args.f.number c.args.formals.now (term_of c.args.body.now) _ c.in-Err-NotAdmitted.field-0 c.in-Err-NotAdmitted.field-0-0 (search rules) c.in-Err-NotAdmitted.ensures) c.measured.result c.measured.ensures

pub returns-in-Err-NotAdmitted-clause-verdict : goal.returns-in-Err-NotAdmitted-clause-verdict
returns-in-Err-NotAdmitted-clause-verdict c = told_verdict c.args.f.number c.args.formals.now (term_of c.args.body.now) c.args.stated c.in-Err-NotAdmitted.field-0-0 (some_refused c.args.f.number c.args.formals.now (term_of c.args.body.now) _ c.in-Err-NotAdmitted.field-0 c.in-Err-NotAdmitted.field-0-0 (search rules) c.in-Err-NotAdmitted.ensures) c.measured.result c.measured.ensures
