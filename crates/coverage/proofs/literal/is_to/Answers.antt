use Rattle.std.proofs.Common.{rules}
use Rattle.coverage.proofs.Widths.{wide_to}
use Rattle.coverage.proofs.literal.is_to.Goals as goal

pub returns-then-count-ge128 : goal.returns-then-count-ge128
returns-then-count-ge128 c = wide_to c.args.count c.args.i c.ranges.i (search rules)
