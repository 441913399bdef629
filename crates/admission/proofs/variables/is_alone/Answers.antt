use Rattle.gl_logic.specs.Exp.{Var}
use Rattle.admission.proofs.Arguments.{one_is_not}
use Rattle.admission.proofs.variables.is_alone.Goals as goal

pub returns-then-terms-ne1 : goal.returns-then-terms-ne1
returns-then-terms-ne1 c = one_is_not (Var c.args.v.number) c.args.terms.now c.if-terms-ne1.true
