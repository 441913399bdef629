use Rattle.std.proofs.Common.{ap, ◌∙◌, arith, length}
use Rattle.node_table.specs.Chains.{Noted}
use Rattle.node_table.proofs.Tables.{table-pushed}
use Rattle.node_table.proofs.table.NodeTable.push.Goals as goal

pub invariant_of-self : goal.invariant_of-self
invariant_of-self g c =
    let i = c.self.inside in
    let same = c.self.view_is ∙ c.grow_where_full.ensures in
    table-pushed g.N.Interned.hash_of i.nodes.items _ i.next.items _ i.heads.items i.room _ _ _ _ c.len-number.result c.len.result c.hash.result c.spread-bucket.result _ c.args.node c.self.invariant
    c.push_reserved.ensures.items c.push_reserved-2.ensures.items (omega arith) (omega arith) c.hash.ensures c.spread-bucket.ensures.place c.spread-bucket.ensures.within c.index-head.ensures
    (omega (arith, c.requires, ap (λ (m : Noted g.row.N.Denot). length m.nodes) same, ap (λ (m : Noted g.row.N.Denot). m.room) same)) (omega (arith, c.push_reserved.ensures.capacity)) (omega (arith, c.push_reserved-2.ensures.capacity))
