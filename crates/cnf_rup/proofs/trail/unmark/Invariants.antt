use Rattle.std.proofs.Common.{◌≡◌, ◌<◌, ℕ, ℤ, length, get_or, drop}
use Rattle.cnf_rup.specs.Marked.{mark_of}
use Rattle.cnf_rup.proofs.Marks.{AreAtMost}
use Rattle.cnf_rup.proofs.trail.unmark.Given as goal

abbrev pub invariant-loop-literal : goal.invariant-loop-literal
invariant-loop-literal l = record {
  most : AreAtMost l.marks.items (drop l.literal-index l.literals);
  fits : (k : ℕ) (d : ℤ) → k < length l.literals → mark_of (get_or l.literals k d) < length l.marks.items;
  long : length l.marks.items ≡ length l.fn.marks.items;
}
