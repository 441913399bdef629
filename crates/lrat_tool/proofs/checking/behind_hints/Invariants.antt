use Rattle.std.proofs.Common.{◌≤◌, ◌-◌}
use Rattle.lrat_tool.proofs.checking.behind_hints.Given as goal

abbrev pub invariant-loop-at : goal.invariant-loop-at
invariant-loop-at l = record {
  first : l.fn.first ≤ l.at;
  end : l.at ≤ l.end;
}

abbrev pub decreases-loop-at : goal.decreases-loop-at
decreases-loop-at l = l.end - l.at
