use Rattle.std.proofs.Common.{◌≡◌, ◌≤◌, ◌+◌, ◌-◌, ℕ, Bool, length, pos, ◌≤ℤ◌, ◌<ℤ◌}
use Rattle.bfr_store.specs.Keeps.{Keeps}
use Rattle.sym_bits.specs.Columns.{shifted}
use Rattle.sym_bits.specs.Dividing.{Divides}
use Rattle.sym_bits.specs.Integers.{AllLive, bits_under, integer_under}
use Rattle.sym_bits.proofs.division.divide.Given as goal

abbrev pub invariant-loop-done : goal.invariant-loop-done
invariant-loop-done g l = record {
  keeps : Keeps g.B.Meaning l.fn.store l.store;
  dividend : AllLive g.B.Meaning l.store l.dividend;
  divisor : AllLive g.B.Meaning l.store l.divisor;
  quotient : AllLive g.B.Meaning l.store l.quotient;
  rest : AllLive g.B.Meaning l.store l.rest;
  quotient_width : length l.quotient ≤ l.done + 1;
  rest_width : length l.rest ≤ 129;
  value : (x : ℕ → Bool) → pos 0 ≤ℤ integer_under g.B.Meaning l.fn.store l.dividend x → pos 0 <ℤ integer_under g.B.Meaning l.fn.store l.divisor x
      → Divides (shifted (bits_under g.B.Meaning l.fn.store l.dividend x) (l.last - l.done)) (integer_under g.B.Meaning l.fn.store l.divisor x) (integer_under g.B.Meaning l.store l.quotient x) (integer_under g.B.Meaning l.store l.rest x);
}
