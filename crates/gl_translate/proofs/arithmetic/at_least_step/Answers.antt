use Rattle.std.proofs.Common.{ap, sym, arith}
use Rattle.gl_logic.specs.declared.prim.Primitive.TheVariants as prim
use Rattle.gl_translate.specs.Macros.{of_two, prim1, prim2}
use Rattle.gl_translate.proofs.Forward.{takes_at, means_two}
use Rattle.gl_translate.proofs.arithmetic.at_least_step.Goals as goal

pub returns-in-len2-clause-takes : goal.returns-in-len2-clause-takes
returns-in-len2-clause-takes c s =
    takes_at s c.unary.result
    (ap (of_two (λ a b. prim1 prim.Not (prim2 prim.Less a b))) (sym (means_two s c.args.forms.now c.b-item.result c.a-item.result (omega (arith, c.in-len2.len_at_least)) (omega (arith, c.in-len2.len_below)) c.b-item.is c.a-item.is)))
    (c.unary.ensures.takes s)
