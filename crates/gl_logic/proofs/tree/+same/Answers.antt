use Rattle.std.proofs.Common.{◌≡◌, ◌∙◌, sym, rules}
use Rattle.gl_logic.proofs.Same.{is_list, same-lists, same-tails, same-elements}
use Rattle.gl_logic.proofs.tree.+same.Goals as goal

pub Tree::same-returns-then-all_same : goal.Tree::same-returns-then-all_same
Tree::same-returns-then-all_same t c =
    let x = is_list _ _ _ _ c.in-List-List.is-0 c.self.view_is c.self.invariant in
    let y = is_list _ _ _ _ c.in-List-List.is-1 c.other.view_is c.other.invariant in
    let e : c.as_slice.result.now ≡ c.as_slice-in-List-List.result.now = search (rules, c.all_same.ensures, c.if-all_same.true) in (
      λ b. same-lists x y (sym c.as_slice.ensures.value ∙ (e ∙ c.as_slice-in-List-List.ensures.value)) (sym c.deref.ensures ∙ (c.same.ensures.0 b ∙ c.deref-then-all_same.ensures)),
      λ p. c.same.ensures.1 (c.deref.ensures ∙ (same-tails x y p ∙ sym c.deref-then-all_same.ensures)),
    )

pub Tree::same-returns-else-all_same : goal.Tree::same-returns-else-all_same
Tree::same-returns-else-all_same t c =
    let x = is_list _ _ _ _ c.in-List-List.is-0 c.self.view_is c.self.invariant in
    let y = is_list _ _ _ _ c.in-List-List.is-1 c.other.view_is c.other.invariant in (
      λ b. absurd (let q = c.if-all_same.false in search (rules, b, q)),
      λ p. c.all_same.ensures.1 (c.as_slice.ensures.value ∙ (same-elements x y p ∙ sym c.as_slice-in-List-List.ensures.value)),
    )
