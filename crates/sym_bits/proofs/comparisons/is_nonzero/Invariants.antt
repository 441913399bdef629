use Rattle.std.proofs.Common.{◌≡◌, ℕ, Bool, not, ◌||◌, pos}
use Rattle.std.specs.Ordering.{int_eq}
use Rattle.bfr_store.specs.Keeps.{Keeps}
use Rattle.sym_bits.specs.Columns.{shifted}
use Rattle.sym_bits.specs.Integers.{AllLive, bits_under}
use Rattle.sym_bits.proofs.comparisons.is_nonzero.Given as goal

abbrev pub invariant-loop-k : goal.invariant-loop-k
invariant-loop-k g l = record {
  keeps : Keeps g.B.Meaning l.fn.store l.store;
  a : AllLive g.B.Meaning l.store l.a;
  found : g.B.Meaning.live l.store l.found;
  value : (x : ℕ → Bool) → (g.B.Meaning.truth_of l.store l.found x || not (int_eq (shifted (bits_under g.B.Meaning l.fn.store l.a x) l.k) (pos 0))) ≡ not (int_eq (shifted (bits_under g.B.Meaning l.fn.store l.a x) 0) (pos 0));
}
