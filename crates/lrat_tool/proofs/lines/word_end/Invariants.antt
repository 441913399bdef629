use Rattle.std.proofs.Common.{◌-◌, ◌≡◌, ◌≤◌, ◌<◌, ℕ, false, length, get_or}
use Rattle.lrat_tool.specs.Words.{is_blank}
use Rattle.lrat_tool.proofs.lines.word_end.Given as goal

abbrev pub invariant-loop-at : goal.invariant-loop-at
invariant-loop-at l = record {
  after : l.fn.from < l.at;
  within : l.at ≤ length l.line;
  solid : (k : ℕ) → l.fn.from ≤ k → k < l.at → is_blank (get_or l.line k 0) ≡ false;
}

abbrev pub decreases-loop-at : goal.decreases-loop-at
decreases-loop-at l = length l.line - l.at
