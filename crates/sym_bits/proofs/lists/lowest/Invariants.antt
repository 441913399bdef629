use Rattle.std.proofs.Common.{◌≡◌, take}
use Rattle.sym_bits.proofs.lists.lowest.Given as goal

abbrev pub invariant-loop-k : goal.invariant-loop-k
invariant-loop-k l = l.low ≡ take l.k l.a
