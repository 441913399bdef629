-- The cells that a call speaks of, beside those of the whole in which it is made.
use Rattle.std.proofs.Common.{◌≡◌, ℕ, zero, suc, ◌≤◌, List, [], ◌∷◌, ◌++◌, length, map, refl, ap, sym, ◌∙◌, arith, subst, Some, inl, inr}
use Rattle.std.specs.List.{Contains, flat_map}
use Rattle.std.proofs.lemmas.List.Elements.{All-contains_itself, Contains-append_left, Contains-append_right, Contains-append_cases}
use Rattle.gl_logic.specs.CellCounts.{cells, constants_of, constants_of_all, world_constants}
use Rattle.gl_logic.specs.ConstantCall.{constant_call, constant_terms}
use Rattle.gl_logic.specs.Counts.{seen, seen_in}
use Rattle.gl_logic.specs.Definition.{Definition}
use Rattle.gl_logic.specs.Different.{different}
use Rattle.gl_logic.specs.Evaluate.{evaluate}
use Rattle.gl_logic.specs.Exp.{Exp}
use Rattle.gl_logic.specs.IsWithin.{IsWithin, Nothing, Both, Skipped}
use Rattle.gl_logic.specs.Object.{Object}
use Rattle.gl_logic.specs.ObjectEq.{object_eq}
use Rattle.gl_logic.specs.Parts.{cells_in}
use Rattle.gl_logic.specs.PartsOfWalks as law
use Rattle.gl_logic.specs.Walk.{opened, then}
use Rattle.gl_logic.specs.WorldSeen.{WorldSeen}
use Rattle.gl_logic.proofs.CallsAreParts.{call_sees, call_value}
use Rattle.gl_logic.proofs.DifferentObjects.{contains_different, different_once}
use Rattle.gl_logic.proofs.Walks.{walk_of_value}
use Rattle.hons_arena.proofs.Counting.{each_once_few}
use Rattle.lisp_eval.proofs.Places.{contains_at, place_of}
use Rattle.gl_interp.proofs.ConstantWalks.{constants_walk}
use Rattle.gl_interp.proofs.Reaching.{SeenIn, has_opened, seen_kept}

-- more objects are no fewer different ones
pub different_within : (xs ys : List Object) → ((y : Object) → Contains xs y → Contains ys y) → length (different object_eq xs) ≤ length (different object_eq ys)
different_within xs ys h =
    omega (arith, each_once_few (different object_eq xs) ys (different_once xs) (λ i d l. h _ (contains_different xs _ (All-contains_itself (different object_eq xs) i d l))))

-- ---- cells of several objects
pub record IsCellAmong (xs : List Object) (y : Object) : Type 0 where
  pub object : Object
  pub among : Contains xs object
  pub cell : Contains (cells_in object) y

pub cell_among : (xs : List Object) (y : Object) → Contains (flat_map cells_in xs) y → IsCellAmong xs y
cell_among [] y c = absurd (omega (arith, c.1))
cell_among (x ∷ xs) y c = elim (Contains-append_cases (cells_in x) (flat_map cells_in xs) y c) [
  | inl d ↦ record { object = x; among = (0, omega arith, refl); cell = d }
  | inr d ↦ let r = cell_among xs y d in record { object = r.object; among = (suc r.among.0, omega (arith, r.among.1), r.among.2); cell = r.cell }
]

pub among_cells : (xs : List Object) (x y : Object) → Contains xs x → Contains (cells_in x) y → Contains (flat_map cells_in xs) y
among_cells [] x y c d = absurd (omega (arith, c.1))
among_cells (z ∷ xs) x y (zero, l, e) d = Contains-append_left (cells_in z) (flat_map cells_in xs) y (subst (λ (w : Object). Contains (cells_in w) y) (sym e) d)
among_cells (z ∷ xs) x y (suc i, l, e) d = Contains-append_right (cells_in z) (flat_map cells_in xs) y (among_cells xs x y (i, omega (arith, l), e) d)

pub cells_within : (xs ys : List Object) → ((x : Object) → Contains xs x → Contains ys x) → (y : Object) → Contains (flat_map cells_in xs) y → Contains (flat_map cells_in ys) y
cells_within xs ys h y c = let r = cell_among xs y c in among_cells ys r.object y (h r.object r.among) r.cell

contains_within : (xs ys : List Object) (x : Object) → IsWithin xs ys → Contains xs x → Contains ys x
contains_within _ _ x Nothing c = c
contains_within _ _ z (Both x xs ys h) (zero, l, e) = (0, omega arith, e)
contains_within _ _ z (Both x xs ys h) (suc i, l, e) = let c = contains_within xs ys z h (i, omega (arith, l), e) in (suc c.0, omega (arith, c.1), c.2)
contains_within _ _ z (Skipped y xs ys h) c = let d = contains_within xs ys z h c in (suc d.0, omega (arith, d.1), d.2)

-- ---- the arguments of a call on constants are seen
pub constants_are : (xs : List Object) → constants_of_all (constant_terms xs) ≡ xs
constants_are [] = refl
constants_are (x ∷ xs) = ap (λ (ys : List Object). x ∷ ys) (constants_are xs)

pub arguments_seen : (ds : List Definition) (n f : ℕ) (xs : List Object) (v x : Object) → evaluate ds n [] (constant_call f xs) ≡ Some v → Contains xs x → Contains (seen ds n [] (constant_call f xs)) x
arguments_seen ds n f xs v x e c =
    let r = walk_of_value ds n [] (constant_call f xs) v e in
    let opens : opened ds n f (record { values = xs; seen = xs; made = [] }) ≡ Some r.0 = sym (ap (λ o. then o (opened ds n f)) (constants_walk (opened ds n) xs [])) ∙ r.1.0 in
    let p = place_of xs x c in
    let i = has_opened (SeenIn x) (seen_kept x) ds n f (record { values = xs; seen = xs; made = [] }) p r.0 opens in
    subst (λ o. Contains (seen_in o) x) (sym r.1.0) (contains_at r.0.seen i.0 x i.1)

-- ---- the cells of the whole
module _ (w : WorldSeen) (n : ℕ) (env : List (ℕ × Object)) (t : Exp) where
  abbrev objects : List Object
  objects = map (λ p. p.1) env ++ (world_constants w ++ (constants_of t ++ seen w.definitions n env t))

  pub seen_among : (x : Object) → Contains (seen w.definitions n env t) x → Contains objects x
  seen_among x c =
      Contains-append_right (map (λ p. p.1) env) (world_constants w ++ (constants_of t ++ seen w.definitions n env t)) x
      (Contains-append_right (world_constants w) (constants_of t ++ seen w.definitions n env t) x (Contains-append_right (constants_of t) (seen w.definitions n env t) x c))

  -- what a call that is made speaks of, the whole speaks of
  pub call_among : (f : ℕ) (xs : List Object) → law.Makes w.definitions n env t (f, xs) → (y : Object) → Contains (cells w n [] (constant_call f xs)) y → Contains (cells w n env t) y
  call_among f xs made y c = cells_within (world_constants w ++ (constants_of_all (constant_terms xs) ++ seen w.definitions n [] (constant_call f xs))) objects one y c where
    seen_too : (x : Object) → Contains (seen w.definitions n [] (constant_call f xs)) x → Contains objects x
    seen_too x c = seen_among x (contains_within (seen w.definitions n [] (constant_call f xs)) (seen w.definitions n env t) x (call_sees w.definitions n env t (f, xs) made) c)

    one : (x : Object) → Contains (world_constants w ++ (constants_of_all (constant_terms xs) ++ seen w.definitions n [] (constant_call f xs))) x → Contains objects x
    one x c = elim (Contains-append_cases (world_constants w) (constants_of_all (constant_terms xs) ++ seen w.definitions n [] (constant_call f xs)) x c) [
      | inl d ↦ Contains-append_right (map (λ p. p.1) env) (world_constants w ++ (constants_of t ++ seen w.definitions n env t)) x (Contains-append_left (world_constants w) (constants_of t ++ seen w.definitions n env t) x d)
      | inr d ↦ elim (Contains-append_cases (constants_of_all (constant_terms xs)) (seen w.definitions n [] (constant_call f xs)) x d) [
        | inl e ↦
            let v = call_value w.definitions n env t (f, xs) made in
            seen_too x (arguments_seen w.definitions n f xs v.0 x v.1 (subst (λ (ys : List Object). Contains ys x) (constants_are xs) e))
        | inr e ↦ seen_too x e
      ]
    ]
