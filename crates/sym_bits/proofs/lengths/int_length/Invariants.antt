use Rattle.std.proofs.Common.{◌≡◌, ◌≤◌, ◌+◌, ℕ, Bool, cond, length, pos, int_lt}
use Rattle.std.specs.Ordering.{int_eq}
use Rattle.bfr_store.specs.Keeps.{Keeps}
use Rattle.gl_logic.specs.Lengths.{integer_length}
use Rattle.sym_bits.specs.Columns.{shifted, sign_value}
use Rattle.sym_bits.specs.Integers.{AllLive, bits_under, integer_under}
use Rattle.sym_bits.proofs.lengths.int_length.Given as goal

abbrev pub invariant-loop-k : goal.invariant-loop-k
invariant-loop-k g l = record {
  keeps : Keeps g.B.Meaning l.fn.store l.store;
  a : AllLive g.B.Meaning l.store l.a;
  sign : g.B.Meaning.live l.store l.sign;
  zero : AllLive g.B.Meaning l.store l.zero;
  place : AllLive g.B.Meaning l.store l.place;
  found : AllLive g.B.Meaning l.store l.length;
  place_width : length l.place ≤ l.k + 1;
  found_width : length l.length ≤ l.k + 1;
  place_is : (x : ℕ → Bool) → integer_under g.B.Meaning l.store l.place x ≡ pos l.k;
  value : (x : ℕ → Bool) → cond (int_eq (shifted (bits_under g.B.Meaning l.fn.store l.a x) l.k) (sign_value (int_lt (shifted (bits_under g.B.Meaning l.fn.store l.a x) 0) (pos 0))))
      (integer_under g.B.Meaning l.store l.length x) (pos (l.k + integer_length (shifted (bits_under g.B.Meaning l.fn.store l.a x) l.k)))
      ≡ pos (integer_length (shifted (bits_under g.B.Meaning l.fn.store l.a x) 0));
}
