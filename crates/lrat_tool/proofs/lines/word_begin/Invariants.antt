use Rattle.std.proofs.Common.{◌-◌, ◌≡◌, ◌≤◌, length, drop}
use Rattle.lrat_tool.specs.Words.{words_of}
use Rattle.lrat_tool.proofs.lines.word_begin.Given as goal

abbrev pub invariant-loop-at : goal.invariant-loop-at
invariant-loop-at l = record {
  after : l.fn.from ≤ l.at;
  within : l.at ≤ length l.line;
  words : words_of (drop l.at l.line) ≡ words_of (drop l.fn.from l.line);
}

abbrev pub decreases-loop-at : goal.decreases-loop-at
decreases-loop-at l = length l.line - l.at
