use Rattle.int_prims.proofs.Digits.{leading_counts}
use Rattle.int_prims.proofs.bitwise.digits.Goals as goal

pub returns : goal.returns
returns c = leading_counts c.args.n c.ranges.n.fits
