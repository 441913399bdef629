use Rattle.gl_logic.specs.Exp.{Var, Prim}
use Rattle.gl_logic.specs.Steps.{on_variable}
use Rattle.gl_logic.specs.declared.prim.Primitive.TheVariants.{UnaryMinus}
use Rattle.admission.proofs.Arguments.{two_are_not}
use Rattle.admission.proofs.variables.is_less_variable.Goals as goal

pub returns-then-terms-ne2 : goal.returns-then-terms-ne2
returns-then-terms-ne2 c = two_are_not (Var c.args.b.number) (on_variable (Prim UnaryMinus) c.args.a.number) c.args.terms.now c.if-terms-ne2.true
