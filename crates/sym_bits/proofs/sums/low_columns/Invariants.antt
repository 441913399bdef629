use Rattle.std.proofs.Common.{◌≡◌, ◌≤◌, length}
use Rattle.sym_bits.specs.Integers.{AllLive}
use Rattle.sym_bits.specs.Calls.{Stands, sum_from}
use Rattle.sym_bits.proofs.sums.low_columns.Given as goal

abbrev pub invariant-loop-k : goal.invariant-loop-k
invariant-loop-k g l = record {
  a : AllLive g.B.Meaning l.store l.a;
  b : AllLive g.B.Meaning l.store l.b;
  carry : g.B.Meaning.live l.store l.carry;
  count : length l.digits ≡ l.k;
  sum : Stands g.B.Meaning l.fn.store l.store l.digits
      (λ x. sum_from g.B.Meaning l.fn.store l.a l.b l.k (g.B.Meaning.truth_of l.store l.carry x) x)
      (λ x. sum_from g.B.Meaning l.fn.store l.a l.b 0 l.carry_in x);
}
