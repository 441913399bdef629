use Rattle.std.proofs.Common.{◌≡◌, ◌+◌, drop}
use Rattle.lrat_tool.specs.Ends.{to_empty}
use Rattle.lrat_tool.proofs.checking.end_of.Given as goal

abbrev pub invariant-loop-k : goal.invariant-loop-k
invariant-loop-k l = to_empty l.clauses.lists ≡ l.k + to_empty (drop l.k l.clauses.lists)
