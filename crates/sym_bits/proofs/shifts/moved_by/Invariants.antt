use Rattle.std.proofs.Common.{◌≡◌, ◌≤◌, ◌+◌, ◌^◌, ℕ, Bool, length, pos, ◌*ℤ◌}
use Rattle.bfr_store.specs.Keeps.{Keeps}
use Rattle.sym_bits.specs.Columns.{low_number}
use Rattle.sym_bits.specs.Integers.{AllLive, bits_under, integer_under}
use Rattle.sym_bits.proofs.shifts.moved_by.Given as goal

abbrev pub invariant-loop-k : goal.invariant-loop-k
invariant-loop-k g l = record {
  keeps : Keeps g.B.Meaning l.fn.store l.store;
  count : AllLive g.B.Meaning l.store l.count;
  whole : AllLive g.B.Meaning l.store l.whole;
  distance : l.distance ≡ 2 ^ l.k;
  width : length l.whole ≤ 127 + l.distance;
  value : (x : ℕ → Bool) → integer_under g.B.Meaning l.store l.whole x ≡ integer_under g.B.Meaning l.fn.store l.fn.a x *ℤ pos (2 ^ low_number l.k (bits_under g.B.Meaning l.fn.store l.fn.count x));
}
