use Rattle.std.proofs.Common.{◌≡◌, ◌≤◌, ◌-◌, length}
use Rattle.lrat_tool.specs.Places.{IsLineIn}
use Rattle.lrat_tool.specs.Reading.{tokens_left}
use Rattle.lrat_tool.proofs.formula.next_token.Given as goal

abbrev pub invariant-loop-word : goal.invariant-loop-word
invariant-loop-word l = record {
  within : IsLineIn l.at (length l.text);
  tokens : tokens_left l.text l.at ≡ tokens_left l.text l.fn.at;
  later : l.fn.at.begin ≤ l.at.begin;
}

abbrev pub decreases-loop-word : goal.decreases-loop-word
decreases-loop-word l = length l.text - l.at.end
