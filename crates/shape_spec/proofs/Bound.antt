-- Bindings one after the other.
use Rattle.std.proofs.Common.{◌≡◌, ◌∙◌, ap, sym, refl, subst, ℕ, ◌+◌, ◌<◌, ◌≤◌, Bool, List, [], ◌∷◌, ◌++◌, map, length, get_or, take, drop, arith, true, false, append_assoc, append-nil}
use Rattle.std.specs.List.Sorted.{IsPermutation}
use Rattle.std.proofs.lemmas.List.{take_more, length-append, map-append, take-append-drop, drop_more}
use Rattle.gl_logic.specs.Object.{Object}
use Rattle.shape_spec.specs.ShapeSeen.{ShapeSeen}
use Rattle.shape_spec.specs.ShapeOf.{shape_of}
use Rattle.shape_spec.specs.Indices.{variables_of, indices_in, indices_of, width_of, rank_in, IsNotIn, AreApart, AllBelow, IsShape, AreShapes, IsBindings}
use Rattle.shape_spec.specs.BindingOf.{binding_of, bindings_of, AreInOrder}
use Rattle.shape_spec.specs.InputMeant.{object_meant, truth_of, truth_in}
use Rattle.shape_spec.specs.Order.{Joins}
use Rattle.shape_spec.specs.declared.binding_list.Binding.{Binding}
use Rattle.std.proofs.lemmas.List.Sorted.{IsPermutation-trans, IsPermutation-sym, IsPermutation-append_left, length_permutation}
use Rattle.shape_spec.proofs.Apart.{apart_push, apart_order}
use Rattle.shape_spec.proofs.Members.{same_object}
use Rattle.shape_spec.proofs.Ordered.{rank_order}

pub indices_append : (b c : List (ℕ × ShapeSeen)) → indices_of (b ++ c) ≡ indices_of b ++ indices_of c
indices_append [] c = refl
indices_append (p ∷ b) c = ap (λ is. indices_in p.1 ++ is) (indices_append b c) ∙ sym (append_assoc (indices_in p.1) (indices_of b) (indices_of c))

pub indices_push : (b : List (ℕ × ShapeSeen)) (p : ℕ × ShapeSeen) → indices_of (b ++ p ∷ []) ≡ indices_of b ++ indices_in p.1
indices_push b p = indices_append b (p ∷ []) ∙ ap (λ is. indices_of b ++ is) (append-nil (indices_in p.1))

pub below_append : (n : ℕ) (xs ys : List ℕ) → AllBelow n xs → AllBelow n ys → AllBelow n (xs ++ ys)
below_append n [] ys h k = k
below_append n (x ∷ xs) ys h k = (h.0, below_append n xs ys h.1 k)

shapes_push : (b : List (ℕ × ShapeSeen)) (p : ℕ × ShapeSeen) → AreShapes b → IsShape p.1 → AreShapes (b ++ p ∷ [])
shapes_push [] p h k = (k, tt)
shapes_push (q ∷ b) p h k = (h.0, shapes_push b p h.1 k)

pub bindings_push : (b : List (ℕ × ShapeSeen)) (p : ℕ × ShapeSeen) → IsBindings b → IsNotIn p.0 (variables_of b) → IsShape p.1
    → AreApart (indices_of b ++ indices_in p.1) → AllBelow 1000000 (indices_in p.1) → width_of b + length (indices_in p.1) ≤ 1024 → IsBindings (b ++ p ∷ [])
bindings_push b p h variable shape apart below few = record {
  variables = subst AreApart (sym (map-append (λ q. q.0) b (p ∷ []))) (apart_push (variables_of b) p.0 h.variables variable);
  shapes = shapes_push b p h.shapes shape;
  indices = subst AreApart (sym (indices_push b p)) apart;
  below = subst (AllBelow 1000000) (sym (indices_push b p)) (below_append 1000000 (indices_of b) (indices_in p.1) h.below below);
  few = omega (arith, few, ap length (indices_push b p), length-append (indices_of b) (indices_in p.1));
}

pub bindings_none : IsBindings []
bindings_none = record { variables = tt; shapes = tt; indices = tt; below = tt; few = omega arith }

-- ---- with their indices in order
module _ (xs : List Binding) (sorted : List ℕ) (order : AreInOrder (bindings_of xs) sorted) where
  -- one more binding, whose indices have joined the others
  pub in_order_push : (ys : List Binding) (x : Binding) (b : List (ℕ × ShapeSeen)) (more next : List ℕ) → bindings_of xs ≡ b → ys ≡ xs ++ x ∷ [] → more ≡ indices_in (shape_of x.shape)
      → Joins true sorted more next → IsNotIn x.variable.number (variables_of b) → IsShape (shape_of x.shape) → AllBelow 1000000 (indices_in (shape_of x.shape)) → width_of b + length (indices_in (shape_of x.shape)) ≤ 1024
      → AreInOrder (bindings_of ys) next
  in_order_push ys x b more next seen e is joins variable shape below few =
      let whole : bindings_of ys ≡ bindings_of xs ++ binding_of x ∷ [] = ap bindings_of e ∙ map-append binding_of xs (x ∷ []) in
      let joined = subst (λ (js : List ℕ). Joins true sorted js next) is joins in
      let all = IsPermutation-trans _ _ _ (IsPermutation-append_left (indices_in (shape_of x.shape)) (indices_of (bindings_of xs)) sorted order.all) joined.1 in
      let apart = apart_order next (indices_of (bindings_of xs) ++ indices_in (shape_of x.shape)) (IsPermutation-sym _ _ all) (apart_order (sorted ++ indices_in (shape_of x.shape)) next joined.1 (joined.2 (apart_order (indices_of (bindings_of xs)) sorted order.all order.proper.indices))) in
      record {
        proper = subst IsBindings (sym whole) (bindings_push (bindings_of xs) (binding_of x) order.proper (subst (λ (c : List (ℕ × ShapeSeen)). IsNotIn x.variable.number (variables_of c)) (sym seen) variable) shape apart below (subst (λ (c : List (ℕ × ShapeSeen)). width_of c + length (indices_in (shape_of x.shape)) ≤ 1024) (sym seen) few));
        rising = joined.0;
        all = subst (λ (is : List ℕ). IsPermutation is next) (sym (ap indices_of whole ∙ indices_push (bindings_of xs) (binding_of x))) all;
      }

  pub joins_never : (more next : List ℕ) (s : ShapeSeen) (b : List (ℕ × ShapeSeen)) → bindings_of xs ≡ b → more ≡ indices_in s → Joins false sorted more next → AreApart (indices_of b ++ indices_in s) → ⊥
  joins_never more next s b seen is joins apart =
      let joined = subst (λ (js : List ℕ). Joins false sorted js next) is joins in
      joined (apart_order (indices_of (bindings_of xs) ++ indices_in s) (sorted ++ indices_in s) (IsPermutation-append_left (indices_in s) (indices_of (bindings_of xs)) sorted order.all) (subst (λ (c : List (ℕ × ShapeSeen)). AreApart (indices_of c ++ indices_in s)) (sym seen) apart))

  pub width_sorted : length sorted ≡ width_of (bindings_of xs)
  width_sorted = length_permutation (indices_of (bindings_of xs)) sorted order.all

  pub ranks_sorted : (i : ℕ) → rank_in sorted i ≡ rank_in (indices_of (bindings_of xs)) i
  ranks_sorted i = rank_order (indices_of (bindings_of xs)) sorted i order.all

  pub objects_sorted : (a : ℕ → Bool) (s : ShapeSeen) → object_meant (truth_in sorted a) s ≡ object_meant (truth_of (bindings_of xs) a) s
  objects_sorted a s = same_object (truth_in sorted a) (truth_of (bindings_of xs) a) s (λ i h. ap a (ranks_sorted i))

  shape_within : (b c : List (ℕ × ShapeSeen)) (p : ℕ × ShapeSeen) → AreShapes (b ++ p ∷ c) → IsShape p.1
  shape_within [] c p h = h.0
  shape_within (q ∷ b) c p h = shape_within b c p h.1

  pub shape_bound : (i : ℕ) (x : Binding) → i < length xs → x ≡ get_or xs i x → IsShape (shape_of x.shape)
  shape_bound i x h e =
      let cut : bindings_of xs ≡ bindings_of (take i xs) ++ binding_of x ∷ bindings_of (drop (i + 1) xs) =
      ap bindings_of (sym (take-append-drop i xs) ∙ ap (λ (ys : List Binding). take i xs ++ ys) (drop_more xs i x h ∙ ap (λ (y : Binding). y ∷ drop (i + 1) xs) (sym e))) ∙ map-append binding_of (take i xs) (x ∷ drop (i + 1) xs) in
      shape_within (bindings_of (take i xs)) (bindings_of (drop (i + 1) xs)) (binding_of x) (subst AreShapes cut order.proper.shapes)

-- one more variable with its object
pub made_more : (f : ℕ × ShapeSeen → ℕ × Object) (xs : List Binding) (i : ℕ) (x : Binding) → i < length xs → x ≡ get_or xs i x
    → map f (bindings_of (take (i + 1) xs)) ≡ map f (bindings_of (take i xs)) ++ f (binding_of x) ∷ []
made_more f xs i x h e =
    ap (λ (ys : List Binding). map f (bindings_of ys)) (take_more xs i x h ∙ ap (λ (y : Binding). take i xs ++ y ∷ []) (sym e))
    ∙ (ap (map f) (map-append binding_of (take i xs) (x ∷ [])) ∙ map-append f (bindings_of (take i xs)) (binding_of x ∷ []))
