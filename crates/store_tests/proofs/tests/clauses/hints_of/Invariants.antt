use Rattle.std.proofs.Common.{◌<◌, All}
use Rattle.store_tests.proofs.tests.clauses.hints_of.Given as goal

abbrev pub invariant-loop-number : goal.invariant-loop-number
invariant-loop-number g l = All (λ n. 0 < n) l.hints
