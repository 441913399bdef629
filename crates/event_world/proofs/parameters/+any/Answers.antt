use Rattle.std.proofs.Common.{◌≡◌, ◌∙◌, ap, sym, arith, ◌||◌, ◌<◌, subst, true, false}
use Rattle.std.specs.List.{list_any}
use Rattle.gl_logic.specs.Object.{Object}
use Rattle.gl_logic.specs.Lists.{elements_of, tail_of, size_of}
use Rattle.event_world.specs.CasesMeant.{has_any}
use Rattle.event_world.proofs.KeptNames.{any_whole}
use Rattle.gl_logic.proofs.ProperLists.{most_of, tail_below}
use Rattle.std.proofs.lemmas.Grind.{common_steps}
use Rattle.event_world.proofs.parameters.+any.Goals as goal

pub has_any-have_any-requires : goal.has_any-have_any-requires
has_any-have_any-requires t c = let m = most_of c.args.object.now c.elements.result.now c.elements.ensures in (omega (arith, m, c.decreases), tt)

pub has_any-has_any-requires : goal.has_any-has_any-requires
has_any-has_any-requires t c =
    let below : size_of c.tail.result.now < size_of c.args.object.now = subst (λ (y : Object). size_of y < size_of c.args.object.now) (sym c.tail.ensures) (tail_below c.args.object.now (sym c.kind.ensures ∙ c.in-List.is)) in
    (omega (arith, below, c.decreases), tt)

pub has_any-returns-then-have_any : goal.has_any-returns-then-have_any
has_any-returns-then-have_any t c =
    let x = c.args.object.now in
    let vs = c.args.names.now in
    let any : list_any (has_any vs) (elements_of x) ≡ true = ap (list_any (has_any vs)) (sym c.elements.ensures) ∙ (sym c.have_any.ensures ∙ c.if-have_any.true) in
    c.if-have_any.true ∙ sym (any_whole vs x ∙ ap (λ b. b || has_any vs (tail_of x)) any)

pub has_any-returns-else-have_any : goal.has_any-returns-else-have_any
has_any-returns-else-have_any t c =
    let x = c.args.object.now in
    let vs = c.args.names.now in
    let none : list_any (has_any vs) (elements_of x) ≡ false = ap (list_any (has_any vs)) (sym c.elements.ensures) ∙ (sym c.have_any.ensures ∙ c.if-have_any.false) in
    c.has_any.ensures ∙ (ap (has_any vs) c.tail.ensures ∙ sym (any_whole vs x ∙ ap (λ b. b || has_any vs (tail_of x)) none))

pub have_any-loop-object-preserved : goal.have_any-loop-object-preserved
have_any-loop-object-preserved t c = grind (arith, common_steps)
