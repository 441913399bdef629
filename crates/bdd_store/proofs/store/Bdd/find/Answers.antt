use Rattle.std.proofs.Common.{sym, ap, ◌∙◌, arith}
use Rattle.node_table.proofs.Finding.{absent-then, found-later}
use Rattle.bdd_store.specs.declared.node.Node.{Node}
use Rattle.bdd_store.specs.Nodes.{Diagrams, constant_node}
use Rattle.bdd_store.proofs.store.Bdd.find.Goals as goal

-- the first node is the constant's, which tests no variable
pub returns-clause-found : goal.returns-clause-found
returns-clause-found c =
    found-later c.find.result c.self.inside.nodes.nodes c.args.self.now.nodes c.args.node constant_node (ap (λ (s : Diagrams). s.nodes) c.self.view_is)
    (λ same. omega (arith, c.requires, ap (λ (m : Node). m.variable) (sym same ∙ c.self.invariant.0.ordered.first))) c.find.ensures.found

pub returns-clause-absent : goal.returns-clause-absent
returns-clause-absent c = absent-then c.find.result c.self.inside.nodes.nodes c.args.self.now.nodes c.args.node constant_node (ap (λ (s : Diagrams). s.nodes) c.self.view_is) c.find.ensures.absent
