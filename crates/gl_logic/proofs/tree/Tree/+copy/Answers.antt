use Rattle.std.proofs.Common.{◌≡◌, ◌∙◌, ap, ap₂, sym, take, ◌++◌, ◌∷◌, [], rules}
use Rattle.std.proofs.lemmas.List.{take_all, take_more}
use Rattle.gl_logic.specs.Object.{Cons}
use Rattle.gl_logic.specs.Lists.{conses, tail_of}
use Rattle.gl_logic.proofs.Elements.{conses-push, list-tail, list-whole}
use Rattle.gl_logic.proofs.tree.Tree.+copy.Goals as goal

pub loop-element-init : goal.loop-element-init
loop-element-init t c = c.in_ok-copied-in-List.ensures ∙ (c.deref.ensures ∙ sym (list-tail _ _ _ _ c.in-List.is c.self.view_is c.self.invariant))

pub loop-element-preserved : goal.loop-element-preserved
loop-element-preserved t c =
    let es = c.deref-element-items.result.now in
    let more = take_more es c.loop-element.element-index c.element-item.result c.loop-element-test.true in
    let push = conses-push (take c.loop-element.element-index es) c.element-item.result (tail_of c.args.self.now) in
    let last = c.element-item.is in
    let first : c.in_ok-first-in-List.first ≡ c.element-item.result = search rules in
    c.in_ok-copied-in-List-2.ensures
    ∙ (ap₂ Cons first c.loop-element.invariant
    ∙ (sym push ∙ ap (λ xs. conses xs (tail_of c.args.self.now)) (ap (λ x. take c.loop-element.element-index es ++ x ∷ []) last ∙ sym more)))

pub returns-after-loop-element : goal.returns-after-loop-element
returns-after-loop-element t c =
    let es = c.deref-element-items.result.now in
    let all : take c.loop-element.element-index es ≡ es = take_all c.loop-element.element-index es c.loop-element-test.false in
    c.loop-element.invariant
    ∙ (ap₂ conses (all ∙ c.deref-element-items.ensures.value) (list-tail _ _ _ _ c.in-List.is c.self.view_is c.self.invariant)
    ∙ sym (list-whole _ _ _ _ c.in-List.is c.self.view_is))
