use Rattle.std.proofs.Common.{◌≡◌, ◌∙◌, ap, sym, subst, map, [], get_or, drop, arith, length, ◌+◌, ◌<◌, List}
use Rattle.std.proofs.lemmas.List.{drop_all}
use Rattle.gl_logic.specs.Object.{Object, Cons}
use Rattle.gl_logic.specs.Lists.{conses}
use Rattle.gl_logic.specs.Assignments.{value_at}
use Rattle.shape_spec.specs.ShapeOf.{shape_of, pairs}
use Rattle.shape_spec.specs.Indices.{IsShape}
use Rattle.shape_spec.specs.InputMeant.{object_meant, truth_in}
use Rattle.shape_spec.specs.declared.shape.Shape.{Shape}
use Rattle.shape_spec.proofs.Pairs.{list_shape}
use Rattle.shape_spec.proofs.Weights.{weight, tail_lighter, element_lighter, first_lighter, second_lighter, choice_shape}
use Rattle.shape_spec.proofs.Conses.{shape_tail, element_shape, pairs_object, conses_drop}
use Rattle.shape_spec.proofs.objects.+object_of.Goals as goal

pub object_of-requires-in-List : goal.object_of-requires-in-List
object_of-requires-in-List t c =
    let whole = subst IsShape (ap shape_of c.in-List.is ∙ list_shape c.in-List.elements c.in-List.tail) c.requires.shape in
    let part = subst (λ (s : Shape). IsShape (shape_of s)) (sym c.deref-in-List.ensures) (shape_tail (map shape_of c.in-List.elements.items) (shape_of c.in-List.tail.value) whole) in
    let lighter = subst (λ (s : Shape). weight s < weight c.args.shape.now) (sym c.deref-in-List.ensures) (tail_lighter c.args.shape.now c.in-List.elements c.in-List.tail c.in-List.is) in
    (omega (arith, lighter, c.decreases), (c.requires.order, (c.requires.width, (c.requires.few, part))))

pub object_of-requires-in-loop-element : goal.object_of-requires-in-loop-element
object_of-requires-in-loop-element t c =
    let whole = subst IsShape (ap shape_of c.in-List.is ∙ list_shape c.in-List.elements c.in-List.tail) c.requires.shape in
    let part = element_shape c.deref-element-items.result.now c.loop-element.element-index c.element-item.result (shape_of c.in-List.tail.value) c.loop-element-test.true c.element-item.is
    (subst (λ (ss : List Shape). IsShape (pairs (map shape_of ss) (shape_of c.in-List.tail.value))) (sym c.deref-element-items.ensures.value) whole) in
    let u = c.element-item.result in
    let k = c.loop-element.element-index in
    let lighter = element_lighter c.args.shape.now c.in-List.elements c.in-List.tail k u c.in-List.is
    (subst (λ (ss : List Shape). k < length ss) c.deref-element-items.ensures.value c.loop-element-test.true)
    (subst (λ (ss : List Shape). u ≡ get_or ss k u) c.deref-element-items.ensures.value c.element-item.is) in
    (omega (arith, lighter, c.decreases), (c.requires.order, (c.requires.width, (c.requires.few, part))))

pub loop-element-preserved : goal.loop-element-preserved
loop-element-preserved t c =
    let obj = object_meant (truth_in c.args.sorted.now (value_at c.args.a.now)) in
    let first : c.in_ok-first-in-List.first ≡ obj (shape_of c.element-item.result) = c.in_ok-first-in-List.ensures in
    ap (conses (map obj (map shape_of (drop (c.loop-element.element-index + 1) c.deref-element-items.result.now)))) (c.in_ok-all-in-List-2.ensures ∙ ap (λ (x : Object). Cons x c.loop-element.all) first)
    ∙ (sym (conses_drop obj c.deref-element-items.result.now c.loop-element.element-index c.element-item.result c.loop-element.all c.loop-element-test.true c.element-item.is) ∙ c.loop-element.invariant)

pub returns-after-loop-element : goal.returns-after-loop-element
returns-after-loop-element t c =
    let f = truth_in c.args.sorted.now (value_at c.args.a.now) in
    let obj = object_meant f in
    let items = c.deref-element-items.result.now in
    let none : drop c.loop-element.element-index items ≡ [] = drop_all c.loop-element.element-index items c.loop-element-test.false in
    let tail : c.in_ok-all-in-List.all ≡ obj (shape_of c.in-List.tail.value) = c.in_ok-all-in-List.ensures ∙ ap (λ (s : Shape). obj (shape_of s)) c.deref-in-List.ensures in
    ap (λ (ss : List Shape). conses (map obj (map shape_of ss)) c.loop-element.all) (sym none)
    ∙ (c.loop-element.invariant
    ∙ (ap (conses (map obj (map shape_of items))) tail
    ∙ (ap (λ (ss : List Shape). conses (map obj (map shape_of ss)) (obj (shape_of c.in-List.tail.value))) c.deref-element-items.ensures.value
    ∙ (sym (pairs_object f (map shape_of c.in-List.elements.items) (shape_of c.in-List.tail.value))
    ∙ ap obj (sym (ap shape_of c.in-List.is ∙ list_shape c.in-List.elements c.in-List.tail))))))

pub object_of-requires : goal.object_of-requires
object_of-requires t c =
    let whole = subst IsShape (ap shape_of c.in-Choice.is ∙ choice_shape c.in-Choice.index c.in-Choice.first c.in-Choice.second) c.requires.shape in
    let part = subst (λ (s : Shape). IsShape (shape_of s)) (sym c.deref.ensures) whole.0 in
    let lighter = subst (λ (s : Shape). weight s < weight c.args.shape.now) (sym c.deref.ensures) (first_lighter c.args.shape.now c.in-Choice.index c.in-Choice.first c.in-Choice.second c.in-Choice.is) in
    (omega (arith, lighter, c.decreases), (c.requires.order, (c.requires.width, (c.requires.few, part))))

pub object_of-requires-else-truth : goal.object_of-requires-else-truth
object_of-requires-else-truth t c =
    let whole = subst IsShape (ap shape_of c.in-Choice.is ∙ choice_shape c.in-Choice.index c.in-Choice.first c.in-Choice.second) c.requires.shape in
    let part = subst (λ (s : Shape). IsShape (shape_of s)) (sym c.deref-else-truth.ensures) whole.1 in
    let lighter = subst (λ (s : Shape). weight s < weight c.args.shape.now) (sym c.deref-else-truth.ensures) (second_lighter c.args.shape.now c.in-Choice.index c.in-Choice.first c.in-Choice.second c.in-Choice.is) in
    (omega (arith, lighter, c.decreases), (c.requires.order, (c.requires.width, (c.requires.few, part))))
