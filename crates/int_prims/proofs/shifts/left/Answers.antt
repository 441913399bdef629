use Rattle.std.proofs.Common.{rules, arith}
use Rattle.std.proofs.lemmas.Int.{ints}
use Rattle.int_prims.proofs.FarShifts.{far_left}
use Rattle.int_prims.proofs.shifts.left.Goals as goal

pub returns-then-count-gt127 : goal.returns-then-count-gt127
returns-then-count-gt127 c = far_left c.args.a c.args.count (λ z. grind (arith, ints)) (search rules) (λ e k. omega (arith, ints, e))

pub returns-else-a-eqminus1 : goal.returns-else-a-eqminus1
returns-else-a-eqminus1 c = far_left c.args.a c.args.count (λ z. grind (arith, ints)) (search rules) (λ e k. grind (arith, ints))
