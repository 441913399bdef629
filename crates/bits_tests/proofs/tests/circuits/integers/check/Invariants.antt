use Rattle.std.proofs.Common.{ℕ, ◌<◌, get_or}
use Rattle.bfr_store.specs.declared.edge.Edge.{Edge}
use Rattle.bdd_store.specs.Nodes.{IsLive}
use Rattle.bits_tests.proofs.tests.circuits.integers.check.Given as goal

abbrev pub invariant-loop-k : goal.invariant-loop-k
invariant-loop-k g l = (k : ℕ) → k < l.k → (d : Edge) → IsLive l.store (get_or l.bits k d)
