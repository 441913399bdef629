use Rattle.std.proofs.Common.{ap, ◌∙◌, List}
use Rattle.aig_store.specs.declared.node.AigNode.{AigNode}
use Rattle.aig_store.specs.declared.node.AigNode.TheVariants.{Constant}
use Rattle.aig_store.specs.Nodes.{Graph, node_at}
use Rattle.aig_store.proofs.store.Aig.node.Goals as goal

pub returns-clause-node : goal.returns-clause-node
returns-clause-node c = c.node.ensures Constant ∙ ap (λ (ns : List AigNode). node_at ns c.args.number) (ap (λ (s : Graph). s.nodes) c.self.view_is)
