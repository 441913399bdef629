use Rattle.std.proofs.Common.{ap, sym, arith}
use Rattle.gl_translate.specs.Macros.{minus_form}
use Rattle.gl_translate.proofs.Forward.{takes_at, means_two}
use Rattle.gl_translate.proofs.arithmetic.minus_step.Goals as goal

pub returns-in-len2-clause-takes : goal.returns-in-len2-clause-takes
returns-in-len2-clause-takes c s =
    takes_at s c.binary.result
    (ap minus_form (sym (means_two s c.args.forms.now c.b-item.result c.a-item-then-forms-lt3.result (omega (arith, c.in-len2.len_at_least)) (omega (arith, c.in-len2.len_below)) c.b-item.is c.a-item-then-forms-lt3.is)))
    (c.binary.ensures.takes s)
