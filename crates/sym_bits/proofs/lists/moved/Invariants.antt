use Rattle.std.proofs.Common.{◌≡◌, ℕ, Bool, length, pos, ℤ, ◌*ℤ◌, ◌^◌}
use Rattle.sym_bits.specs.Columns.{onto}
use Rattle.sym_bits.specs.Integers.{AllLive, bits_under}
use Rattle.sym_bits.proofs.lists.moved.Given as goal

abbrev pub invariant-loop : goal.invariant-loop
invariant-loop g l = record {
  live : AllLive g.B.Meaning l.store l.zeros;
  width : length l.zeros ≡ l.counter;
  value : (x : ℕ → Bool) (z : ℤ) → onto (bits_under g.B.Meaning l.store l.zeros x) z ≡ z *ℤ pos (2 ^ l.counter);
}
