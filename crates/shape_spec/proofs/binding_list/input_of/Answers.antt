use Rattle.std.proofs.Common.{◌≡◌, ◌∙◌, ap, sym, subst, ℕ, ◌<◌, ◌++◌, ◌∷◌, [], List, map, length, get_or, arith}
use Rattle.std.specs.List.Sorted.{IsNonDecreasing}
use Rattle.std.proofs.lemmas.List.{take_all}
use Rattle.gl_logic.specs.Object.{Object}
use Rattle.gl_logic.specs.Assignments.{value_at}
use Rattle.shape_spec.specs.ShapeSeen.{ShapeSeen}
use Rattle.shape_spec.specs.ShapeOf.{shape_of}
use Rattle.shape_spec.specs.Indices.{width_of}
use Rattle.shape_spec.specs.BindingOf.{bindings_of}
use Rattle.shape_spec.specs.InputMeant.{object_meant, truth_of, truth_in}
use Rattle.shape_spec.specs.declared.binding_list.Binding.{Binding}
use Rattle.shape_spec.proofs.Bound.{width_sorted, objects_sorted, shape_bound, made_more}
use Rattle.shape_spec.proofs.binding_list.input_of.Goals as goal

pub object_of-requires : goal.object_of-requires
object_of-requires c =
    let xs = c.b.inside.items.items in
    let sorted = c.b.inside.sorted.items in
    let x = c.binding-item.result in
    let i = c.loop-binding.binding-index in
    let is = c.as_slice-sorted.ensures.value in
    let width = width_sorted xs sorted c.b.invariant in
    let wide = ap width_of c.b.view_is in
    let long = ap (λ (ys : List ℕ). length ys) is in
    record {
      order = subst IsNonDecreasing (sym is) c.b.invariant.rising;
      width = c.requires ∙ (sym wide ∙ (sym width ∙ sym long));
      few = omega (arith, width, long, c.b.invariant.proper.few);
      shape = shape_bound xs sorted c.b.invariant i x (subst (λ (ys : List Binding). i < length ys) c.deref-binding-items.ensures.value c.loop-binding-test.true) (subst (λ (ys : List Binding). x ≡ get_or ys i x) c.deref-binding-items.ensures.value c.binding-item.is);
    }

pub loop-binding-preserved : goal.loop-binding-preserved
loop-binding-preserved c =
    let xs = c.deref-binding-items.result.now in
    let x = c.binding-item.result in
    let a = value_at c.args.a.now in
    let f : ℕ × ShapeSeen → ℕ × Object = λ p. (p.0, object_meant (truth_of c.args.b.now a) p.1) in
    let object : c.in_ok-object.object ≡ object_meant (truth_of c.args.b.now a) (shape_of x.shape) =
    c.in_ok-object.ensures
    ∙ (ap (λ (ys : List ℕ). object_meant (truth_in ys a) (shape_of x.shape)) c.as_slice-sorted.ensures.value
    ∙ (objects_sorted c.b.inside.items.items c.b.inside.sorted.items c.b.invariant a (shape_of x.shape)
    ∙ ap (λ (b : List (ℕ × ShapeSeen)). object_meant (truth_of b a) (shape_of x.shape)) c.b.view_is)) in
    c.in_ok-push.ensures.ok
    ∙ ((λ k. c.loop-binding.invariant k ++ (x.variable.number, object k) ∷ [])
    ∙ sym (made_more f xs c.loop-binding.binding-index x c.loop-binding-test.true c.binding-item.is))

pub returns : goal.returns
returns c =
    let xs = c.deref-binding-items.result.now in
    let a = value_at c.args.a.now in
    let f : ℕ × ShapeSeen → ℕ × Object = λ p. (p.0, object_meant (truth_of c.args.b.now a) p.1) in
    c.loop-binding.invariant
    ∙ (ap (λ (ys : List Binding). map f (bindings_of ys)) (take_all c.loop-binding.binding-index xs c.loop-binding-test.false ∙ c.deref-binding-items.ensures.value)
    ∙ ap (map f) c.b.view_is)
