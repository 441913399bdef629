use Rattle.std.proofs.Common.{◌≡◌, ◌∙◌, ◌+◌, ap, ap₂, sym, arith, take, length, ◌++◌, ◌∷◌, []}
use Rattle.std.specs.Io.Iter.{u64_saturate}
use Rattle.std.proofs.lemmas.List.{take_all, take_more}
use Rattle.gl_logic.specs.Object.{Object, Cons}
use Rattle.gl_logic.specs.Lists.{conses, tail_of}
use Rattle.gl_logic.specs.Parts.{cells_in}
use Rattle.gl_logic.proofs.CellCounts.{cells_of_cons}
use Rattle.gl_logic.proofs.Elements.{conses-push, list-tail, list-whole}
use Rattle.gl_logic.proofs.tree.Tree.+cell_count.Goals as goal

pub loop-element-init : goal.loop-element-init
loop-element-init t c =
    c.cell_count-count.ensures ∙ ap (λ (x : Object). u64_saturate (length (cells_in x))) (c.deref.ensures ∙ sym (list-tail _ _ _ _ c.in-List.is c.self.view_is c.self.invariant))

pub loop-element-preserved : goal.loop-element-preserved
loop-element-preserved t c =
    let es = c.deref-element-items.result.now in
    let x = c.element-item.result in
    let some = conses (take c.loop-element.element-index es) (tail_of c.args.self.now) in
    let more = take_more es c.loop-element.element-index x c.loop-element-test.true in
    let same : conses (take (c.loop-element.element-index + 1) es) (tail_of c.args.self.now) ≡ Cons x some =
    ap (λ xs. conses xs (tail_of c.args.self.now)) (more ∙ ap (λ y. take c.loop-element.element-index es ++ y ∷ []) (sym c.element-item.is)) ∙ conses-push (take c.loop-element.element-index es) x (tail_of c.args.self.now) in
    let counted : length (cells_in (conses (take (c.loop-element.element-index + 1) es) (tail_of c.args.self.now))) ≡ length (cells_in (Cons x some)) = ap (λ (y : Object). length (cells_in y)) same in
    omega (arith, counted, cells_of_cons x some, c.loop-element.invariant, c.cell_count.ensures, c.saturating_add.ensures, c.saturating_add-count.ensures)

pub returns-after-loop-element : goal.returns-after-loop-element
returns-after-loop-element t c =
    let es = c.deref-element-items.result.now in
    let all : take c.loop-element.element-index es ≡ es = take_all c.loop-element.element-index es c.loop-element-test.false in
    c.loop-element.invariant
    ∙ ap (λ (x : Object). u64_saturate (length (cells_in x))) (ap₂ conses (all ∙ c.deref-element-items.ensures.value) (list-tail _ _ _ _ c.in-List.is c.self.view_is c.self.invariant)
    ∙ sym (list-whole _ _ _ _ c.in-List.is c.self.view_is))
