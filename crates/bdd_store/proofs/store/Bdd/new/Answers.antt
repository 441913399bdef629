use Rattle.std.proofs.Common.{◌≡◌, ◌∷◌, ◌++◌, ◌∙◌, [], ap, length, arith}
use Rattle.node_table.specs.Chains.{Noted}
use Rattle.bdd_store.specs.declared.node.Node.{Node}
use Rattle.bdd_store.specs.Nodes.{constant_node}
use Rattle.bdd_store.proofs.Stores.{store-first}
use Rattle.bdd_store.proofs.store.Bdd.new.Goals as goal

pub invariant_of-result : goal.invariant_of-result
invariant_of-result c =
    let nodes = c.push.new.self.nodes in
    let is : nodes ≡ constant_node ∷ [] = ap (λ (t : Noted Node). t.nodes) c.push.ensures.added ∙ (λ i. (c.in_ok-nodes.ensures i).nodes ++ c.constant.ensures i ∷ []) in
    let one : length nodes ≡ 1 = ap length is in
    let none : length c.in_ok-computed.computed.items ≡ 0 = ap length c.in_ok-computed.ensures.items in (
      store-first nodes c.widen.new.entries.items c.args.limit is (c.widen.ensures.answers nodes (omega (arith, one)) (λ i d h. absurd (omega (arith, none)))) c.widen.ensures.some,
      ap (λ (t : Noted Node). t.room) (c.push.ensures.added) ∙ ap (λ (t : Noted Node). t.room) c.in_ok-nodes.ensures,
      c.requires,
    )
