-- Shapes that are lists: their parts and their objects.
use Rattle.std.proofs.Common.{◌≡◌, ◌∙◌, ap, sym, refl, subst, ℕ, zero, suc, ◌+◌, ◌<◌, Bool, List, [], ◌∷◌, ◌++◌, map, reverse, drop, length, get_or, arith, append_assoc, append-nil}
use Rattle.std.specs.List.{flat_map}
use Rattle.std.proofs.lemmas.List.{drop_more, reverse-append, length-map, get_or-map}
use Rattle.std.proofs.lemmas.Grind.{flat_map-append}
use Rattle.gl_logic.specs.Object.{Object, Cons}
use Rattle.gl_logic.specs.Lists.{conses}
use Rattle.shape_spec.specs.ShapeSeen.{ShapeSeen, Pair}
use Rattle.shape_spec.specs.ShapeOf.{shape_of, pairs}
use Rattle.shape_spec.specs.Indices.{indices_in, IsShape}
use Rattle.shape_spec.specs.InputMeant.{object_meant}
use Rattle.shape_spec.specs.declared.shape.Shape.{Shape}

pub pairs_object : (f : ℕ → Bool) (ss : List ShapeSeen) (t : ShapeSeen) → object_meant f (pairs ss t) ≡ conses (map (object_meant f) ss) (object_meant f t)
pairs_object f [] t = refl
pairs_object f (s ∷ ss) t = pairs_object f ss (Pair s t)

pub shape_tail : (ss : List ShapeSeen) (t : ShapeSeen) → IsShape (pairs ss t) → IsShape t
shape_tail [] t h = h
shape_tail (s ∷ ss) t h = (shape_tail ss (Pair s t) h).1

pub shape_element : (ss : List ShapeSeen) (t : ShapeSeen) (k : ℕ) (d : ShapeSeen) → IsShape (pairs ss t) → k < length ss → IsShape (get_or ss k d)
shape_element [] t k d h l = absurd (omega (arith, l))
shape_element (s ∷ ss) t zero d h l = (shape_tail ss (Pair s t) h).0
shape_element (s ∷ ss) t (suc k) d h l = shape_element ss (Pair s t) k d h (omega (arith, l))

pub pairs_push : (ss : List ShapeSeen) (s t : ShapeSeen) → pairs (ss ++ s ∷ []) t ≡ Pair s (pairs ss t)
pairs_push [] s t = refl
pairs_push (u ∷ ss) s t = pairs_push ss s (Pair u t)

-- ---- indices, which stand in the order of reading
abbrev pub front_indices : List Shape → List ℕ
front_indices ss = flat_map (λ s. indices_in (shape_of s)) (reverse ss)

pub front_more : (ss : List Shape) (k : ℕ) (s : Shape) → k < length ss → s ≡ get_or ss k s → front_indices (drop k ss) ≡ front_indices (drop (k + 1) ss) ++ indices_in (shape_of s)
front_more ss k s h at =
    ap front_indices (drop_more ss k s h ∙ ap (λ (u : Shape). u ∷ drop (k + 1) ss) (sym at))
    ∙ (ap (flat_map (λ u. indices_in (shape_of u))) (reverse-append (s ∷ []) (drop (k + 1) ss))
    ∙ (flat_map-append (λ u. indices_in (shape_of u)) (reverse (drop (k + 1) ss)) (s ∷ [])
    ∙ ap (λ is. front_indices (drop (k + 1) ss) ++ is) (append-nil (indices_in (shape_of s)))))

pub front_pairs : (ss : List Shape) (t : ShapeSeen) → indices_in (pairs (map shape_of ss) t) ≡ front_indices ss ++ indices_in t
front_pairs [] t = refl
front_pairs (s ∷ ss) t =
    front_pairs ss (Pair (shape_of s) t)
    ∙ (sym (append_assoc (front_indices ss) (indices_in (shape_of s)) (indices_in t))
    ∙ ap (λ is. is ++ indices_in t) (sym (front_more (s ∷ ss) 0 s (omega arith) refl)))

pub element_shape : (ss : List Shape) (k : ℕ) (s : Shape) (t : ShapeSeen) → k < length ss → s ≡ get_or ss k s → IsShape (pairs (map shape_of ss) t) → IsShape (shape_of s)
element_shape ss k s t h at whole =
    subst IsShape (get_or-map shape_of ss k s (shape_of s) h ∙ ap shape_of (sym at))
    (shape_element (map shape_of ss) t k (shape_of s) whole (omega (arith, h, length-map ss shape_of)))

pub conses_drop : (f : ShapeSeen → Object) (ss : List Shape) (k : ℕ) (s : Shape) (x : Object) → k < length ss → s ≡ get_or ss k s
    → conses (map f (map shape_of (drop k ss))) x ≡ conses (map f (map shape_of (drop (k + 1) ss))) (Cons (f (shape_of s)) x)
conses_drop f ss k s x h at = ap (λ (us : List Shape). conses (map f (map shape_of us)) x) (drop_more ss k s h ∙ ap (λ (u : Shape). u ∷ drop (k + 1) ss) (sym at))
