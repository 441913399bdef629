use Rattle.lisp_eval.proofs.SmallBits.{power_masks}
use Rattle.lisp_eval.proofs.word_arithmetic.remainder.Goals as goal

pub returns-then-b-places : goal.returns-then-b-places
returns-then-b-places c = power_masks c.args.a c.args.b _ c.if-places-lt64.true c.if-b-places.true
