use Rattle.std.proofs.Common.{◌≡◌, ◌-◌, ◌++◌, ℤ, List, length}
use Rattle.lrat_tool.specs.Held.{said_to_zero}
use Rattle.lrat_tool.specs.Logs.{most_literal}
use Rattle.lrat_tool.specs.Numbers.{integer_within}
use Rattle.lrat_tool.specs.Places.{IsLineIn}
use Rattle.lrat_tool.specs.Words.{words_left}
use Rattle.lrat_tool.proofs.Entries.{onto}
use Rattle.lrat_tool.proofs.log.read_literals.Given as goal

abbrev pub invariant-loop-span : goal.invariant-loop-span
invariant-loop-span l = record {
  within : IsLineIn l.line (length l.text);
  number : l.line.number ≡ l.fn.line.number;
  read : (zs : List ℤ) × (said_to_zero (integer_within most_literal) (words_left l.text l.fn.line.begin l.fn.line.end) ≡ onto zs (said_to_zero (integer_within most_literal) (words_left l.text l.line.begin l.line.end)))
      × (l.clauses ≡ record { lists = l.fn.clauses.lists; rest = l.fn.clauses.rest ++ zs });
}

abbrev pub decreases-loop-span : goal.decreases-loop-span
decreases-loop-span l = length l.text - l.line.begin
