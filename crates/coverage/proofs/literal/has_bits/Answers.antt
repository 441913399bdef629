use Rattle.std.proofs.Common.{rules}
use Rattle.coverage.proofs.Widths.{wide}
use Rattle.coverage.proofs.literal.has_bits.Goals as goal

pub returns-then-count-ge128 : goal.returns-then-count-ge128
returns-then-count-ge128 c = wide c.args.count c.args.i c.ranges.i (search rules)
