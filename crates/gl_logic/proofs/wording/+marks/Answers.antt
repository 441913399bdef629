use Rattle.std.proofs.Common.{◌≡◌, ◌∙◌, ap, sym, arith, ◌||◌, ◌<◌, subst, true, false}
use Rattle.std.specs.List.{list_any}
use Rattle.gl_logic.specs.Object.{Object}
use Rattle.gl_logic.specs.Lists.{elements_of, tail_of, size_of}
use Rattle.gl_logic.specs.Wording.{has_mark}
use Rattle.gl_logic.proofs.ProperLists.{marks_whole}
use Rattle.gl_logic.proofs.ProperLists.{most_of, tail_below}
use Rattle.std.proofs.lemmas.Grind.{common_steps}
use Rattle.gl_logic.proofs.wording.+marks.Goals as goal

pub has_mark-have_marks-requires : goal.has_mark-have_marks-requires
has_mark-have_marks-requires t c = let m = most_of c.args.object.now c.elements.result.now c.elements.ensures in (omega (arith, m, c.decreases), tt)

pub has_mark-has_mark-requires : goal.has_mark-has_mark-requires
has_mark-has_mark-requires t c =
    let below : size_of c.tail.result.now < size_of c.args.object.now = subst (λ (y : Object). size_of y < size_of c.args.object.now) (sym c.tail.ensures) (tail_below c.args.object.now (sym c.kind.ensures ∙ c.in-List.is)) in
    (omega (arith, below, c.decreases), tt)

pub has_mark-returns-then-have_marks : goal.has_mark-returns-then-have_marks
has_mark-returns-then-have_marks t c =
    let x = c.args.object.now in
    let any : list_any has_mark (elements_of x) ≡ true = ap (list_any has_mark) (sym c.elements.ensures) ∙ (sym c.have_marks.ensures ∙ c.if-have_marks.true) in
    c.if-have_marks.true ∙ sym (marks_whole x ∙ ap (λ b. b || has_mark (tail_of x)) any)

pub has_mark-returns-else-have_marks : goal.has_mark-returns-else-have_marks
has_mark-returns-else-have_marks t c =
    let x = c.args.object.now in
    let none : list_any has_mark (elements_of x) ≡ false = ap (list_any has_mark) (sym c.elements.ensures) ∙ (sym c.have_marks.ensures ∙ c.if-have_marks.false) in
    c.has_mark.ensures ∙ (ap has_mark c.tail.ensures ∙ sym (marks_whole x ∙ ap (λ b. b || has_mark (tail_of x)) none))

pub have_marks-loop-object-preserved : goal.have_marks-loop-object-preserved
have_marks-loop-object-preserved t c = grind (arith, common_steps)
