use Rattle.std.proofs.Common.{◌-◌, List, length}
use Rattle.lrat_tool.specs.Places.{IsLineIn}
use Rattle.lrat_tool.specs.Formulas.{Token}
use Rattle.lrat_tool.specs.Reading.{HasHeader, tokens_left}
use Rattle.lrat_tool.proofs.Formulas.{IsRead}
use Rattle.lrat_tool.proofs.formula.read_clauses.Given as goal

abbrev pub invariant-loop-span : goal.invariant-loop-span
invariant-loop-span l = record {
  within : IsLineIn l.at (length l.text);
  read : (all : List Token) → HasHeader all (tokens_left l.text l.fn.at) l.header → IsRead all (tokens_left l.text l.at) l.header l.clauses;
}

abbrev pub decreases-loop-span : goal.decreases-loop-span
decreases-loop-span l = length l.text - l.at.begin
