use Rattle.std.proofs.Common.{◌≡◌, ap, sym, ◌∙◌}
use Rattle.bfr_store.specs.Edges.{node_of, is_flipped, xor}
use Rattle.aig_store.specs.Nodes.{node_at, says}
use Rattle.aig_store.proofs.Nodes.{edge-says}
use Rattle.aig_store.proofs.store.Aig.node_of.Goals as goal

pub returns-clause-truth : goal.returns-clause-truth
returns-clause-truth c a =
    let nodes = c.args.self.now.nodes in
    let is : c.node-2.result ≡ node_at nodes (node_of c.args.e) = c.node-2.ensures.node ∙ ap (node_at nodes) c.node.ensures in
    edge-says nodes _ c.node-2.ensures.ordered c.args.e c.requires a ∙ ap (λ n. xor (is_flipped c.args.e) (says nodes n a)) (sym is)
