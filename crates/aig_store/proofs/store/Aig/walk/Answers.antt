use Rattle.std.proofs.Common.{◌≡◌, true, false, not, ap, sym, ◌∙◌}
use Rattle.gl_logic.specs.Assignments.{value_at}
use Rattle.bfr_store.specs.Edges.{node_of, is_flipped, xor}
use Rattle.aig_store.specs.Nodes.{Graph, truth_of}
use Rattle.aig_store.specs.Walks.{value_of}
use Rattle.aig_store.proofs.store.Aig.walk.Goals as goal
use Rattle.aig_store.proofs.store.Aig.walk.Goals.{then-is_complemented, else-is_complemented}

pub returns-clause-truth : goal.returns-clause-truth
unfolding truth_of
returns-clause-truth c =
    let a = value_at c.args.a.now in
    let nodes_are : c.as_slice.result.now ≡ c.args.self.now.nodes = c.as_slice.ensures ∙ ap (λ (s : Graph). s.nodes) c.self.view_is in
    let says : c.evaluate-says.result ≡ value_of c.args.self.now.nodes a (node_of c.args.e) = c.evaluate-says.ensures.value ∙ (λ j. value_of (nodes_are j) a (c.node.ensures j)) in
    elim c.if-is_complemented.branch [
      | then-is_complemented w ↦ w.result-is ∙ ap not says ∙ ap (λ f. xor f (value_of c.args.self.now.nodes a (node_of c.args.e))) (sym w.if-is_complemented.true ∙ c.is_complemented.ensures)
      | else-is_complemented w ↦ w.result-is ∙ says ∙ ap (λ f. xor f (value_of c.args.self.now.nodes a (node_of c.args.e))) (sym w.if-is_complemented.false ∙ c.is_complemented.ensures)
    ]
