use Rattle.std.proofs.Common.{◌≡◌, ◌≤◌, take}
use Rattle.cnf_rup.specs.Shown.{negated}
use Rattle.cnf_rup.proofs.check.take_as_false.Given as goal

abbrev pub invariant-loop-literal : goal.invariant-loop-literal
invariant-loop-literal l = record {
  literals : l.trail.literals ≡ negated (take l.literal-index l.clause);
  room : l.trail.room ≡ l.fn.trail.room;
  unset : l.trail.unset ≤ l.trail.room;
}
