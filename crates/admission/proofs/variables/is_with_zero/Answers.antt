use Rattle.gl_logic.specs.Exp.{Var}
use Rattle.gl_logic.specs.Steps.{zero_term}
use Rattle.admission.proofs.Arguments.{two_are_not}
use Rattle.admission.proofs.variables.is_with_zero.Goals as goal

pub returns-then-terms-ne2 : goal.returns-then-terms-ne2
returns-then-terms-ne2 c = two_are_not (Var c.args.v.number) zero_term c.args.terms.now c.if-terms-ne2.true
