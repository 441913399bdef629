use Rattle.std.proofs.Common.{◌-◌, ◌≢◌, ◌≤◌, ◌<◌, ℕ, length, get_or}
use Rattle.lrat_tool.proofs.lines.line_end.Given as goal

abbrev pub invariant-loop-at : goal.invariant-loop-at
invariant-loop-at l = record {
  after : l.fn.from ≤ l.at;
  within : l.at ≤ length l.text;
  inner : (k : ℕ) → l.fn.from ≤ k → k < l.at → get_or l.text k 0 ≢ 10;
}

abbrev pub decreases-loop-at : goal.decreases-loop-at
decreases-loop-at l = length l.text - l.at
