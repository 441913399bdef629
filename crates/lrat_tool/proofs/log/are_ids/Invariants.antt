use Rattle.std.proofs.Common.{◌≡◌, ◌-◌, length}
use Rattle.lrat_tool.specs.Logs.{are_ids}
use Rattle.lrat_tool.specs.Places.{IsLineIn}
use Rattle.lrat_tool.specs.Words.{words_left}
use Rattle.lrat_tool.proofs.log.are_ids.Given as goal

abbrev pub invariant-loop-span : goal.invariant-loop-span
invariant-loop-span l = record {
  within : IsLineIn l.line (length l.text);
  ids : are_ids (words_left l.text l.fn.line.begin l.fn.line.end) ≡ are_ids (words_left l.text l.line.begin l.line.end);
}

abbrev pub decreases-loop-span : goal.decreases-loop-span
decreases-loop-span l = length l.text - l.line.begin
