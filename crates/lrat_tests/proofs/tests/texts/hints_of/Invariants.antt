use Rattle.std.proofs.Common.{◌<◌, All}
use Rattle.lrat_tests.proofs.tests.texts.hints_of.Given as goal

abbrev pub invariant-loop-number : goal.invariant-loop-number
invariant-loop-number g l = All (λ n. 0 < n) l.hints
