use Rattle.std.proofs.Common.{rules}
use Rattle.int_prims.proofs.Widths.{wide_unsigned}
use Rattle.int_prims.proofs.bytes.is_unsigned.Goals as goal

pub returns-then-width-ge127 : goal.returns-then-width-ge127
returns-then-width-ge127 c = wide_unsigned c.args.width c.args.a c.ranges.a (search rules) (search rules)
