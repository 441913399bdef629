use Rattle.std.proofs.Common.{◌≡◌, ◌≤◌, ◌+◌, max, ℕ, Bool, length}
use Rattle.sym_bits.specs.Columns.{onto, shifted}
use Rattle.sym_bits.specs.Integers.{AllLive, bits_under}
use Rattle.sym_bits.proofs.lists.append.Given as goal

abbrev pub invariant-loop-k : goal.invariant-loop-k
invariant-loop-k g l = record {
  live : AllLive g.B.Meaning l.store l.digits;
  count : length l.digits + l.from ≡ length l.fn.digits + l.k;
  most : l.k ≤ max l.from l.last;
  value : (x : ℕ → Bool) → onto (bits_under g.B.Meaning l.store l.digits x) (shifted (bits_under g.B.Meaning l.store l.a x) l.k) ≡ onto (bits_under g.B.Meaning l.store l.fn.digits x) (shifted (bits_under g.B.Meaning l.store l.a x) l.from);
}
