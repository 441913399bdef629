use Rattle.std.proofs.Common.{◌≡◌, ◌-◌, ◌++◌, ℤ, List, map, length}
use Rattle.std.specs.List.{list_any}
use Rattle.lrat_tool.specs.Held.{said_to_zero}
use Rattle.lrat_tool.specs.HintWords.{held_of}
use Rattle.lrat_tool.specs.Judgements.{is_below_zero}
use Rattle.lrat_tool.specs.Numbers.{integer_said}
use Rattle.lrat_tool.specs.Places.{IsLineIn}
use Rattle.lrat_tool.specs.Words.{words_left}
use Rattle.lrat_tool.proofs.Entries.{onto}
use Rattle.lrat_tool.proofs.log.read_hints.Given as goal

abbrev pub invariant-loop-span : goal.invariant-loop-span
invariant-loop-span l = record {
  within : IsLineIn l.line (length l.text);
  number : l.line.number ≡ l.fn.line.number;
  read : (zs : List ℤ) × (said_to_zero integer_said (words_left l.text l.fn.line.begin l.fn.line.end) ≡ onto zs (said_to_zero integer_said (words_left l.text l.line.begin l.line.end)))
      × (l.hints ≡ record { lists = l.fn.hints.lists; rest = l.fn.hints.rest ++ map held_of zs }) × (l.below ≡ list_any is_below_zero zs);
}

abbrev pub decreases-loop-span : goal.decreases-loop-span
decreases-loop-span l = length l.text - l.line.begin
