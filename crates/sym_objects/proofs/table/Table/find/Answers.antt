use Rattle.std.proofs.Common.{◌≡◌, ◌≢◌, ◌<◌, ◌+◌, ◌-◌, ◌∙◌, length, arith, rules}
use Rattle.std.proofs.lemmas.List.{get_or_read}
use Rattle.sym_objects.specs.declared.node.Node.TheVariants as node
use Rattle.sym_objects.proofs.Linked.{passed-next}
use Rattle.sym_objects.proofs.table.Table.find.Goals as goal

pub loop-at-preserved : goal.loop-at-preserved
loop-at-preserved c =
    let i = c.self.inside in
    let at = c.loop-at.at in
    let here : (at - 1) + 1 ≡ at = omega arith in
    let inside : at - 1 < length i.nodes.items = omega (arith, c.loop-at.invariant.within) in
    let linked : at - 1 < length i.next.items = omega (arith, inside, c.self.invariant.chained.one_each) in
    let read = get_or_read i.nodes.items (at - 1) c.index.result.now inside c.index.ensures (node.Character 0) in
    let other : c.index.result.now ≢ c.args.node = search rules in
    passed-next _ i.nodes.items i.next.items i.heads.items c.args.node at (at - 1) _ c.self.invariant.chained c.loop-at.invariant here (λ same. other (read ∙ same))
    (get_or_read i.next.items (at - 1) _ linked c.index-at-in-loop-at.ensures 0)
