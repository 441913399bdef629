use Rattle.std.proofs.Common.{◌≡◌, ◌∙◌, ap, sym, cond, Bool, true, false, ◌||◌, Option, None, Some}
use Rattle.std.specs.List.{list_any}
use Rattle.gl_logic.specs.Object.{Object}
use Rattle.gl_logic.specs.Lists.{conses}
use Rattle.shape_spec.specs.ShapeSeen.{ShapeSeen, Constant}
use Rattle.gl_logic.specs.Wording.{has_mark}
use Rattle.gl_logic.proofs.ProperLists.{marks_conses}
use Rattle.shape_spec.proofs.shape_form.Setting.concrete.Goals as goal

abbrev meant : Bool → Object → Option ShapeSeen
meant b x = cond b None (Some (Constant x))

or_true : (a b : Bool) → b ≡ true → (a || b) ≡ true
or_true true b h = sym h ∙ h
or_true false b h = h

pub returns-then-have_marks : goal.returns-then-have_marks
returns-then-have_marks c =
    let x = conses c.args.rest.now c.args.tail.now in
    ap (λ (b : Bool). meant b x) (marks_conses c.args.rest.now c.args.tail.now ∙ ap (λ (b : Bool). b || has_mark c.args.tail.now) (sym c.have_marks.ensures ∙ c.if-have_marks.true))

pub returns-then-has_mark : goal.returns-then-has_mark
returns-then-has_mark c =
    let x = conses c.args.rest.now c.args.tail.now in
    ap (λ (b : Bool). meant b x) (marks_conses c.args.rest.now c.args.tail.now ∙ or_true (list_any has_mark c.args.rest.now) (has_mark c.args.tail.now) (sym c.has_mark.ensures ∙ c.if-has_mark.true))

pub returns : goal.returns
returns c =
    let x = conses c.args.rest.now c.args.tail.now in
    ap (λ (b : Bool). meant b x) (marks_conses c.args.rest.now c.args.tail.now
    ∙ (ap (λ (b : Bool). b || has_mark c.args.tail.now) (sym c.have_marks.ensures ∙ c.if-have_marks.false) ∙ (sym c.has_mark.ensures ∙ c.if-has_mark.false)))
    ∙ ap Some (sym (c.constant.ensures ∙ ap Constant c.in_ok-listed_tree.ensures))
