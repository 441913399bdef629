use Rattle.std.proofs.Common.{ℕ, ℤ, ◌<◌, ◌≤◌, get_or, unsigned_abs}
use Rattle.cnf_rup.proofs.book.marks_for.Given as goal

abbrev pub invariant-loop-literal : goal.invariant-loop-literal
invariant-loop-literal l = record {
  most : (k : ℕ) (d : ℤ) → k < l.literal-index → unsigned_abs (get_or l.clause k d) ≤ l.most;
  small : l.most ≤ 2147483647;
}
