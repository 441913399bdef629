use Rattle.std.proofs.Common.{◌≡◌, ◌≤◌, ℕ, true, drop, length, eqb}
use Rattle.std.specs.List.{list_any}
use Rattle.gl_logic.specs.NameSets.{are_different}
use Rattle.gl_logic.proofs.name_set.are_different.Given as goal

-- those from the place on are different, and the set has them
abbrev pub invariant-loop-left : goal.invariant-loop-left
invariant-loop-left l = record {
  within : l.left ≤ length l.names;
  different : are_different (drop l.left l.names) ≡ true;
  has : (v : ℕ) → list_any (eqb v) l.seen ≡ list_any (eqb v) (drop l.left l.names);
}

abbrev pub decreases-loop-left : goal.decreases-loop-left
decreases-loop-left l = l.left
