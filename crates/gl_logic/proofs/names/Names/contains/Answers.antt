use Rattle.std.proofs.Common.{◌∙◌, sym, ap, eqb, arith}
use Rattle.std.specs.List.{list_any}
use Rattle.gl_logic.proofs.NameLists.{numbers, among, not_among}
use Rattle.gl_logic.proofs.names.Names.contains.Goals as goal

pub returns-then-name-item : goal.returns-then-name-item
returns-then-name-item c =
    let n = c.args.name.number in
    let seen = ap numbers c.deref-item-items.ensures.value ∙ c.self.view_is in
    sym (ap (list_any (eqb n)) (sym seen) ∙ among n c.deref-item-items.result.now c.loop-item.item-index _ c.loop-item-test.true c.if-name-item.true)

pub returns : goal.returns
returns c =
    let n = c.args.name.number in
    let seen = ap numbers c.deref-item-items.ensures.value ∙ c.self.view_is in
    sym (ap (list_any (eqb n)) (sym seen) ∙ not_among n c.deref-item-items.result.now (λ k d l. c.loop-item.invariant k d (omega (arith, l, c.loop-item-test.false))))
