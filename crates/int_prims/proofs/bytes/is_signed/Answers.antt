use Rattle.std.proofs.Common.{rules}
use Rattle.int_prims.proofs.Widths.{wide_signed}
use Rattle.int_prims.proofs.bytes.is_signed.Goals as goal

pub returns-then-width-ge128 : goal.returns-then-width-ge128
returns-then-width-ge128 c = wide_signed c.args.width c.args.a c.ranges.a (search rules)
