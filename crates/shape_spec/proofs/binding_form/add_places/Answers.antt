use Rattle.std.proofs.Common.{◌≡◌, ◌∙◌, ap, sym, subst, ℕ, ◌+◌, ◌-◌, [], ◌∷◌, ◌++◌, List, Bool, true, false, Some, map, get_or, refl, arith}
use Rattle.std.specs.List.{list_all}
use Rattle.std.proofs.lemmas.List.{take_all}
use Rattle.std.proofs.lemmas.Result.{err_from_is_err_and}
use Rattle.shape_spec.specs.ShapeSeen.{ShapeSeen}
use Rattle.shape_spec.specs.ShapeOf.{shape_of}
use Rattle.shape_spec.specs.Indices.{variables_of, width_of, IsBindings}
use Rattle.gl_logic.specs.Wording.{is_legal}
use Rattle.shape_spec.specs.ItemsMeant.{shape_at, places_of}
use Rattle.shape_spec.specs.BindingsMeant.{are_bindings, checked}
use Rattle.shape_spec.specs.Gives.{fits, taken, variable_of}
use Rattle.shape_spec.specs.declared.item_form.ItemVariable.{ItemVariable}
use Rattle.shape_spec.proofs.Fits.{IsFit, some_same, gives_err, refuses_none, fit_to, taken_some, taken_none}
use Rattle.shape_spec.proofs.Bound.{bindings_none}
use Rattle.shape_spec.proofs.BindingSteps.{bindings_good, good_to, legal_push, checked_at, unfit, added_bad, slots_more, slots_bad}
use Rattle.shape_spec.proofs.binding_form.add_places.Goals as goal

abbrev bound_by : List ℕ → ℕ × Bool → ℕ × ShapeSeen
bound_by slots v = (v.0, shape_at v.1 (places_of v.0 slots))

pub loop-variable-init : goal.loop-variable-init
loop-variable-init c =
    let names = c.args.texts.now in
    let none = c.requires.none in
    record {
      so_far = none;
      proper = subst IsBindings (sym none) bindings_none;
      left = ap (λ (d : List (ℕ × ShapeSeen)). 1024 + width_of d) none;
      legal = ap (λ (d : List (ℕ × ShapeSeen)). list_all (is_legal names) (variables_of d)) none;
      seen = c.requires.none_seen ∙ ap variables_of (sym none);
    }

abbrev first : ItemVariable
first = record { name = record { number = 0 }; is_boolean = false }

-- the places of a variable as they are read, and as they are meant
same_shape : (slots slots' places : List ℕ) (v : ItemVariable) → slots' ≡ slots → places ≡ places_of v.name.number slots' → shape_at v.is_boolean places ≡ (bound_by slots (variable_of v)).1
same_shape slots slots' places v e h = ap (shape_at v.is_boolean) (h ∙ ap (places_of v.name.number) e)

-- a shape that fits is the variable's
one_bound : (slots slots' places : List ℕ) (v : ItemVariable) (left less : ℕ) (s : ShapeSeen) → slots' ≡ slots → places ≡ places_of v.name.number slots' → taken left (Some (shape_at v.is_boolean places)) ≡ Some (s, less) → (v.name.number, s) ≡ bound_by slots (variable_of v)
one_bound slots slots' places v left less s e h t =
    let is : shape_at v.is_boolean places ≡ s = some_same _ _ (taken_some left (Some (shape_at v.is_boolean places)) s less t).is in
    λ i. (v.name.number, (sym is ∙ same_shape slots slots' places v e h) i)

pub returns-in_err-shape : goal.returns-in_err-shape
returns-in_err-shape c =
    let names = c.args.texts.now in
    let slots = c.args.whole.now.slots.items in
    let vs = c.deref-variable-items.result.now in
    let k = c.loop-variable.variable-index in
    let v = get_or vs k first in
    let places = c.in_ok-places.places.items in
    let same = same_shape slots c.as_slice.result.now places v c.as_slice.ensures.value c.in_ok-places.ensures in
    let whole = ap (λ (ws : List ItemVariable). checked names (Some (map (bound_by slots) (map variable_of ws)))) (sym c.deref-variable-items.ensures.value) in
    gives_err _ c.from_residual-in_err-shape.result c.in_err-shape.field-0.0 _ (err_from_is_err_and c.from_residual-in_err-shape.result c.from_residual-in_err-shape.ensures.1)
    (refuses_none c.in_err-shape.field-0.0 (taken c.loop-variable.left (Some (shape_at v.is_boolean places))) _
    (λ e. whole ∙ slots_bad names (bound_by slots) vs k first c.loop-variable-test.true
    (ap (λ (d : List (ℕ × ShapeSeen)). are_bindings names (d ++ bound_by slots (variable_of v) ∷ [])) (sym c.loop-variable.invariant.so_far)
    ∙ unfit names c.loop-variable.all (bound_by slots (variable_of v)) c.loop-variable.left c.loop-variable.invariant.left
    (λ f. taken_none c.loop-variable.left (Some (shape_at v.is_boolean places)) e (shape_at v.is_boolean places) refl (subst (IsFit c.loop-variable.left) (sym same) f)))) c.in_err-shape.ensures)

pub add-requires-clause-fits : goal.add-requires-clause-fits
add-requires-clause-fits c =
    let v = get_or c.deref-variable-items.result.now c.loop-variable.variable-index first in
    let one = taken_some c.loop-variable.left (Some (shape_at v.is_boolean c.in_ok-places.places.items)) (shape_of c.in_ok-shape.shape) c.in_ok-shape.field-0-1 c.in_ok-shape.ensures in
    let same : c.loop-variable.left ≡ 1024 - width_of c.loop-variable.all = omega (arith, c.loop-variable.invariant.left) in
    subst (λ (k : ℕ). fits k (shape_of c.in_ok-shape.shape) ≡ true) same (fit_to c.loop-variable.left (shape_of c.in_ok-shape.shape) one.fit)

pub returns-in_err-add : goal.returns-in_err-add
returns-in_err-add c =
    let names = c.args.texts.now in
    let slots = c.args.whole.now.slots.items in
    let vs = c.deref-variable-items.result.now in
    let k = c.loop-variable.variable-index in
    let v = get_or vs k first in
    let p : ℕ × ShapeSeen = (v.name.number, shape_of c.in_ok-shape.shape) in
    let one : p ≡ bound_by slots (variable_of v) = one_bound slots c.as_slice.result.now c.in_ok-places.places.items v c.loop-variable.left c.in_ok-shape.field-0-1 (shape_of c.in_ok-shape.shape) c.as_slice.ensures.value c.in_ok-places.ensures c.in_ok-shape.ensures in
    let whole = ap (λ (ws : List ItemVariable). checked names (Some (map (bound_by slots) (map variable_of ws)))) (sym c.deref-variable-items.ensures.value) in
    gives_err _ c.from_residual-in_err-add.result c.in_err-add.field-0.0 _ (err_from_is_err_and c.from_residual-in_err-add.result c.from_residual-in_err-add.ensures.1)
    (added_bad names c.loop-variable.all p c.add.new.all c.in_err-add.field-0.0 _
    (λ e. whole ∙ slots_bad names (bound_by slots) vs k first c.loop-variable-test.true ((λ i. are_bindings names (sym c.loop-variable.invariant.so_far i ++ sym one i ∷ [])) ∙ e)) c.in_err-add.ensures.adds)

pub loop-variable-preserved : goal.loop-variable-preserved
loop-variable-preserved c =
    let names = c.args.texts.now in
    let slots = c.args.whole.now.slots.items in
    let vs = c.deref-variable-items.result.now in
    let k = c.loop-variable.variable-index in
    let v = get_or vs k first in
    let p : ℕ × ShapeSeen = (v.name.number, shape_of c.in_ok-shape.shape) in
    let one : p ≡ bound_by slots (variable_of v) = one_bound slots c.as_slice.result.now c.in_ok-places.places.items v c.loop-variable.left c.in_ok-shape.field-0-1 (shape_of c.in_ok-shape.shape) c.as_slice.ensures.value c.in_ok-places.ensures c.in_ok-shape.ensures in
    let added : c.add.new.all ≡ c.loop-variable.all ++ p ∷ [] = c.in_ok-add.ensures.adds.0 in
    record {
      so_far = added ∙ ((λ i. c.loop-variable.invariant.so_far i ++ one i ∷ []) ∙ sym (slots_more (bound_by slots) vs k first c.loop-variable-test.true));
      proper = c.bit_count-left.ensures.proper;
      left = omega (arith, c.bit_count-left.ensures.count, c.bit_count-left.ensures.proper.few);
      legal = ap (λ (d : List (ℕ × ShapeSeen)). list_all (is_legal names) (variables_of d)) added ∙ legal_push names c.loop-variable.all p c.loop-variable.invariant.legal c.in_ok-add.ensures.adds.1;
      seen = c.in_ok-add.ensures.seen;
    }

pub returns : goal.returns
returns c =
    let names = c.args.texts.now in
    let g = bound_by c.args.whole.now.slots.items in
    let vs = c.deref-variable-items.result.now in
    let whole : c.loop-variable.all ≡ map g (map variable_of c.args.whole.now.variables.items) =
    c.loop-variable.invariant.so_far ∙ ap (λ (ws : List ItemVariable). map g (map variable_of ws)) (take_all c.loop-variable.variable-index vs c.loop-variable-test.false ∙ c.deref-variable-items.ensures.value) in
    ap (λ (b : List (ℕ × ShapeSeen)). checked names (Some b)) (sym whole)
    ∙ checked_at names c.loop-variable.all (good_to names c.loop-variable.all (bindings_good names c.loop-variable.all c.loop-variable.invariant.proper c.loop-variable.invariant.legal))
