use Rattle.std.proofs.Common.{◌≡◌, ℕ, Bool, ◌+ℤ◌, int_lt}
use Rattle.bfr_store.specs.Keeps.{Keeps}
use Rattle.gl_logic.specs.TwosComplement.{digit}
use Rattle.sym_bits.specs.Columns.{shifted}
use Rattle.sym_bits.specs.Integers.{AllLive, bits_under}
use Rattle.sym_bits.proofs.comparisons.less.Given as goal

abbrev pub invariant-loop-k : goal.invariant-loop-k
invariant-loop-k g l = record {
  keeps : Keeps g.B.Meaning l.fn.store l.store;
  a : AllLive g.B.Meaning l.store l.a;
  b : AllLive g.B.Meaning l.store l.b;
  is_less : g.B.Meaning.live l.store l.is_less;
  value : (x : ℕ → Bool) → int_lt (shifted (bits_under g.B.Meaning l.fn.store l.a x) l.k) (shifted (bits_under g.B.Meaning l.fn.store l.b x) l.k +ℤ digit (g.B.Meaning.truth_of l.store l.is_less x))
      ≡ int_lt (shifted (bits_under g.B.Meaning l.fn.store l.a x) 0) (shifted (bits_under g.B.Meaning l.fn.store l.b x) 0);
}
