use Rattle.std.proofs.Common.{◌≡◌, ap, arith}
use Rattle.bdd_store.specs.declared.node.Node.{Node}
use Rattle.bdd_store.specs.Nodes.{top_of}
use Rattle.bdd_store.proofs.Nodes.{top-in_width}
use Rattle.bdd_store.proofs.store.Bdd.top.Goals as goal
use Rattle.bdd_store.proofs.store.Bdd.top.Goals.{After-node_of}

top_is : (c : After-node_of) → c.node_of.result.variable ≡ top_of c.args.self.now.nodes c.args.e
unfolding top_of
top_is c = ap (λ (n : Node). n.variable) c.node_of.ensures.node

pub returns-clause-top : goal.returns-clause-top
returns-clause-top c = top_is c

pub returns-clause-in_width : goal.returns-clause-in_width
returns-clause-in_width c = λ positive. omega (arith, top_is c, top-in_width c.args.self.now.nodes _ c.node_of.ensures.ordered c.args.e positive c.requires)
