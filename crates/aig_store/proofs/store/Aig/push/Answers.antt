use Rattle.std.proofs.Common.{ap, ◌∙◌, arith}
use Rattle.node_table.specs.Chains.{Noted}
use Rattle.aig_store.specs.declared.node.AigNode.{AigNode}
use Rattle.aig_store.specs.Nodes.{Graph}
use Rattle.aig_store.proofs.Stores.{store-pushed}
use Rattle.aig_store.proofs.store.Aig.push.Goals as goal

pub invariant_of-self : goal.invariant_of-self
invariant_of-self c =
    let i = c.self.inside in
    let same = c.self.view_is in
    let added = c.push-number.ensures.added in (
      store-pushed i.nodes.nodes c.args.self.now.nodes c.push-number.new.self.nodes i.marks.items c.push_reserved.new.self.items i.calls i.limit c.args.self.now.limit i.width c.args.self.now.width c.args.node c.blank.result
          c.self.invariant.0 (ap (λ (s : Graph). s.nodes) same) (ap (λ (s : Graph). s.limit) same) (ap (λ (s : Graph). s.width) same)
          (ap (λ (t : Noted AigNode). t.nodes) added) c.push_reserved.ensures.items c.blank.ensures c.requires.room c.requires.proper c.requires.absent,
      ap (λ (t : Noted AigNode). t.room) added ∙ c.self.invariant.1,
      omega (arith, c.push_reserved.ensures.capacity),
      omega arith,
      omega arith,
    )
