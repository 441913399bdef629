use Rattle.std.proofs.Common.{ap, ◌∙◌, List}
use Rattle.bdd_store.specs.declared.node.Node.{Node}
use Rattle.bdd_store.specs.Nodes.{Diagrams, constant_node, node_at}
use Rattle.bdd_store.proofs.store.Bdd.node_of.Goals as goal

pub returns-clause-node : goal.returns-clause-node
returns-clause-node c =
    c.node-2.ensures constant_node
    ∙ ap (λ (ns : List Node). node_at ns c.node.result) (ap (λ (s : Diagrams). s.nodes) c.self.view_is)
    ∙ ap (node_at c.args.self.now.nodes) c.node.ensures
