use Rattle.std.proofs.Common.{◌≡◌, ◌≢◌, ◌-◌, ◌<◌, ℕ, Bool, length}
use Rattle.bfr_store.specs.Edges.{node_of}
use Rattle.gl_logic.specs.Assignments.{value_at}
use Rattle.bdd_store.specs.Nodes.{top_of, truth_of}
use Rattle.bdd_store.proofs.store.Bdd.satisfy.Given as goal

abbrev pub invariant-loop-at : goal.invariant-loop-at
invariant-loop-at l = record {
  live : node_of l.at < length l.self.nodes;
  other : l.at.number ≢ 1;
  bits : length l.out ≡ length l.initial.out;
  same : (b : ℕ → Bool) → ((k : ℕ) → k < top_of l.self.nodes l.at → b k ≡ value_at l.out k) → truth_of l.self.nodes l.fn.e b ≡ truth_of l.self.nodes l.at b;
}

abbrev pub decreases-loop-at : goal.decreases-loop-at
decreases-loop-at l = 4294967296 - top_of l.self.nodes l.at
