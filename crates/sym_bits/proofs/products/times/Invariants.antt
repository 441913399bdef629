use Rattle.std.proofs.Common.{◌≡◌, ◌≤◌, max, ℕ, Bool, length, pos, ◌+ℤ◌, ◌*ℤ◌}
use Rattle.sym_bits.specs.Columns.{shifted}
use Rattle.sym_bits.specs.Integers.{AllLive, bits_under, integer_under}
use Rattle.sym_bits.specs.Calls.{Stands}
use Rattle.sym_bits.proofs.products.times.Given as goal

abbrev pub invariant-loop-k : goal.invariant-loop-k
invariant-loop-k g l = record {
  a : AllLive g.B.Meaning l.store l.a;
  b : AllLive g.B.Meaning l.store l.b;
  zero : AllLive g.B.Meaning l.store l.zero;
  rest : AllLive g.B.Meaning l.store l.rest;
  width : length l.rest ≤ max 1 (length l.a);
  count : length l.digits ≡ l.k;
  value : Stands g.B.Meaning l.fn.store l.store l.digits
      (λ x. integer_under g.B.Meaning l.store l.rest x +ℤ (integer_under g.B.Meaning l.fn.store l.a x *ℤ shifted (bits_under g.B.Meaning l.fn.store l.b x) l.k))
      (λ x. integer_under g.B.Meaning l.fn.store l.a x *ℤ shifted (bits_under g.B.Meaning l.fn.store l.b x) 0);
}
