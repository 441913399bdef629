use Rattle.gl_logic.specs.TermOf.{term_of}
use Rattle.admission.proofs.LoneDefinitions.{lone_ok, lone_err}
use Rattle.admission.proofs.single_definition.refused.Goals as goal

pub returns-in-Ok : goal.returns-in-Ok
returns-in-Ok c = lone_ok c.args.f.number c.args.formals.now (term_of c.args.body.now) c.args.measure c.start.result c.in-Ok.field-0 c.start.ensures c.in-Ok.ensures

pub returns-in-Err : goal.returns-in-Err
returns-in-Err c = lone_err c.args.f.number c.args.formals.now (term_of c.args.body.now) c.args.measure c.start.result c.in-Err.fault c.start.ensures c.in-Err.ensures
