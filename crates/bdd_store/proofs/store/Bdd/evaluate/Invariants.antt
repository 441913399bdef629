use Rattle.std.proofs.Common.{◌≡◌, ◌-◌, ◌<◌, length}
use Rattle.bfr_store.specs.Edges.{node_of}
use Rattle.gl_logic.specs.Assignments.{value_at}
use Rattle.bdd_store.specs.Nodes.{top_of, truth_of}
use Rattle.bdd_store.proofs.store.Bdd.evaluate.Given as goal

abbrev pub invariant-loop-variable : goal.invariant-loop-variable
invariant-loop-variable l = record {
  live : node_of l.at < length l.self.nodes;
  same : truth_of l.self.nodes l.at (value_at l.a) ≡ truth_of l.self.nodes l.fn.e (value_at l.a);
}

abbrev pub decreases-loop-variable : goal.decreases-loop-variable
decreases-loop-variable l = 4294967296 - top_of l.self.nodes l.at
