use Rattle.std.proofs.Common.{ap, ◌∙◌, arith}
use Rattle.node_table.specs.Chains.{Noted}
use Rattle.bdd_store.specs.declared.node.Node.{Node}
use Rattle.bdd_store.specs.Nodes.{Diagrams}
use Rattle.bdd_store.proofs.Stores.{store-pushed}
use Rattle.bdd_store.proofs.store.Bdd.push.Goals as goal

pub invariant_of-self : goal.invariant_of-self
invariant_of-self c =
    let i = c.self.inside in
    let same = c.self.view_is ∙ c.grow_where_full.ensures in
    let added = c.push.ensures.added in (
      store-pushed i.nodes.nodes c.args.self.now.nodes c.push.new.self.nodes i.computed.items i.limit c.args.self.now.limit i.width c.args.self.now.width c.args.node
          c.self.invariant.0 (ap (λ (s : Diagrams). s.nodes) same) (ap (λ (s : Diagrams). s.limit) same) (ap (λ (s : Diagrams). s.width) same)
          (ap (λ (t : Noted Node). t.nodes) added) c.requires.room c.requires.branch c.requires.absent,
      ap (λ (t : Noted Node). t.room) added ∙ c.self.invariant.1,
      omega arith,
    )
