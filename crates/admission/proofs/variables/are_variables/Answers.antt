use Rattle.gl_logic.specs.Exp.{Var}
use Rattle.admission.proofs.Arguments.{two_are_not}
use Rattle.admission.proofs.variables.are_variables.Goals as goal

pub returns-then-terms-ne2 : goal.returns-then-terms-ne2
returns-then-terms-ne2 c = two_are_not (Var c.args.a.number) (Var c.args.b.number) c.args.terms.now c.if-terms-ne2.true
