use Rattle.std.proofs.Common.{ap, subst, sym, ◌∙◌, arith, ◌<◌, ◌≢◌, ℕ, List, length}
use Rattle.sym_objects.specs.declared.node.Node.{Node}
use Rattle.sym_objects.specs.Table.{Marked, numbered}
use Rattle.sym_objects.proofs.Tables.{table-pushed}
use Rattle.sym_objects.proofs.table.Table.push.Goals as goal

pub invariant_of-self : goal.invariant_of-self
invariant_of-self c =
    let i = c.self.inside in
    let same = c.self.view_is ∙ c.grow_where_full.ensures in
    let absent : (k : ℕ) → k < length i.nodes.items → numbered i.nodes.items k ≢ c.args.node = subst (λ (ns : List Node). (k : ℕ) → k < length ns → numbered ns k ≢ c.args.node) (sym (ap (λ (m : Marked). m.nodes) same)) c.requires.absent in
    table-pushed i.nodes.items _ i.marks.items _ i.next.items _ i.heads.items _ _ _ _ _ _ _ c.len-number.result c.len.result c.bucket-bucket.result _ c.args.node c.args.mark c.self.invariant
    c.push_reserved.ensures.items c.push_reserved-2.ensures.items c.push_reserved-3.ensures.items (omega arith) (omega arith) c.bucket-bucket.ensures.bucket c.bucket-bucket.ensures.within c.index-head.ensures
    (omega (arith, c.requires.room, ap (λ (m : Marked). length m.nodes) same, ap (λ (m : Marked). m.limit) same)) absent
    (omega (arith, c.push_reserved.ensures.capacity)) (omega (arith, c.push_reserved-2.ensures.capacity)) (omega (arith, c.push_reserved-3.ensures.capacity))
