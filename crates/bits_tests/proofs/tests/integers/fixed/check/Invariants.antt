use Rattle.std.proofs.Common.{ℕ, ◌<◌, get_or}
use Rattle.bfr_store.specs.declared.edge.Edge.{Edge}
use Rattle.bits_tests.proofs.tests.integers.fixed.check.Given as goal

abbrev pub invariant-loop-k : goal.invariant-loop-k
invariant-loop-k g l = (k : ℕ) → k < l.k → (d : Edge) → (get_or l.a k d).number < 6
