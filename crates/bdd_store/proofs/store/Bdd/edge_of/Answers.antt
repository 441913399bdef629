use Rattle.std.proofs.Common.{◌≡◌, ap, ◌∙◌, subst, arith, List}
use Rattle.bfr_store.specs.Edges.{node_of}
use Rattle.bdd_store.specs.declared.node.Node.{Node}
use Rattle.bdd_store.specs.Nodes.{Diagrams, node_at}
use Rattle.bdd_store.specs.Inside.{IsOrdered}
use Rattle.bdd_store.proofs.Nodes.{plain-says, top-at}
use Rattle.bdd_store.proofs.store.Bdd.edge_of.Goals as goal

pub returns-clause-top : goal.returns-clause-top
returns-clause-top c =
    let at : node_of c.regular.result ≡ c.args.number = omega (arith, c.regular.ensures) in
    top-at c.args.self.now.nodes c.regular.result ∙ ap (λ i. (node_at c.args.self.now.nodes i).variable) at

pub returns-clause-truth : goal.returns-clause-truth
returns-clause-truth c a =
    let nodes_are = ap (λ (s : Diagrams). s.nodes) c.self.view_is in
    let o : IsOrdered c.args.self.now.nodes c.self.inside.width = subst (λ (ns : List Node). IsOrdered ns c.self.inside.width) nodes_are c.self.invariant.0.ordered in
    plain-says c.args.self.now.nodes _ o c.args.number c.regular.result c.regular.ensures c.requires.some c.requires.live a
