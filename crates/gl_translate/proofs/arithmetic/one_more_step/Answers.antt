use Rattle.std.proofs.Common.{ap, sym, arith}
use Rattle.gl_logic.specs.declared.prim.Primitive.TheVariants as prim
use Rattle.gl_translate.specs.Macros.{of_one, prim2, number}
use Rattle.gl_translate.proofs.Forward.{takes_at, means_one}
use Rattle.gl_translate.proofs.arithmetic.one_more_step.Goals as goal

pub returns-in-len1-clause-takes : goal.returns-in-len1-clause-takes
returns-in-len1-clause-takes c s =
    takes_at s c.binary.result
    (ap (of_one (λ a. prim2 prim.BinaryPlus (number 1) a)) (sym (means_one s c.args.forms.now c.a-item.result (omega (arith, c.in-len1.len_at_least)) (omega (arith, c.in-len1.len_below)) c.a-item.is)))
    (c.binary.ensures.takes s)
