use Rattle.std.proofs.Common.{sym, ap, ◌∙◌}
use Rattle.node_table.proofs.Finding.{absent-then, found-later}
use Rattle.aig_store.specs.declared.node.AigNode.TheVariants.{Constant}
use Rattle.aig_store.specs.Nodes.{Graph}
use Rattle.aig_store.proofs.store.Aig.find.Goals as goal

pub returns-clause-found : goal.returns-clause-found
returns-clause-found c =
    found-later c.find.result c.self.inside.nodes.nodes c.args.self.now.nodes c.args.node Constant (ap (λ (s : Graph). s.nodes) c.self.view_is) (λ same. c.requires (sym same ∙ c.self.invariant.0.ordered.first)) c.find.ensures.found

pub returns-clause-absent : goal.returns-clause-absent
returns-clause-absent c = absent-then c.find.result c.self.inside.nodes.nodes c.args.self.now.nodes c.args.node Constant (ap (λ (s : Graph). s.nodes) c.self.view_is) c.find.ensures.absent
