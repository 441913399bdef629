-- Names that are bound one after the other.
use Rattle.std.proofs.Common.{◌≡◌, ◌∙◌, ap, sym, refl, subst, ℕ, zero, suc, ◌-◌, ◌<◌, ◌≤◌, Bool, true, false, cond, not, ◌&&◌, ◌||◌, eqb, List, [], ◌∷◌, ◌++◌, drop, take, length, arith, Some, slice_get}
use Rattle.std.specs.List.{list_any}
use Rattle.std.proofs.lemmas.List.{take-append-le, length_push}
use Rattle.std.proofs.lemmas.Bool.{eqb-true}
use Rattle.gl_logic.specs.NameSets.{are_different}

pub any_push : {A : Type 0} (p : A → Bool) (xs : List A) (x : A) → list_any p (xs ++ x ∷ []) ≡ (list_any p xs || p x)
any_push p [] x = elim (p x) as (λ b. (b || false) ≡ b) [ true ↦ refl | false ↦ refl ]
any_push p (y ∷ ys) x = elim (p y) as (λ b. (b || list_any p (ys ++ x ∷ [])) ≡ ((b || list_any p ys) || p x)) [ true ↦ refl | false ↦ any_push p ys x ]

pub drop_next : (xs : List ℕ) (i v : ℕ) → slice_get xs i ≡ Some v → drop i xs ≡ v ∷ drop (suc i) xs
drop_next [] zero v e = absurd cc
drop_next [] (suc i) v e = absurd cc
drop_next (x ∷ xs) zero v e = let f : x ≡ v = cc in ap (λ y. y ∷ xs) f
drop_next (x ∷ xs) (suc i) v e = drop_next xs i v e

pub take_next : (xs : List ℕ) (i v : ℕ) → slice_get xs i ≡ Some v → take (suc i) xs ≡ take i xs ++ v ∷ []
take_next [] zero v e = absurd cc
take_next [] (suc i) v e = absurd cc
take_next (x ∷ xs) zero v e = let f : x ≡ v = cc in ap (λ y. y ∷ []) f
take_next (x ∷ xs) (suc i) v e = ap (λ ys. x ∷ ys) (take_next xs i v e)

-- ---- tests
not_false : (b : Bool) → true ≡ not b → b ≡ false
not_false true e = absurd cc
not_false false e = refl

not_true : (b : Bool) → false ≡ not b → b ≡ true
not_true true e = refl
not_true false e = absurd cc

or_comm : (a b : Bool) → (a || b) ≡ (b || a)
or_comm true true = refl
or_comm true false = refl
or_comm false true = refl
or_comm false false = refl

second_true : (a b : Bool) → (a && b) ≡ true → b ≡ true
second_true true b e = e
second_true false b e = absurd cc

-- ---- no name twice
pub different_behind : (xs : List ℕ) (i : ℕ) → are_different xs ≡ true → are_different (drop i xs) ≡ true
different_behind [] zero e = refl
different_behind [] (suc i) e = refl
different_behind (x ∷ xs) zero e = e
different_behind (x ∷ xs) (suc i) e = different_behind xs i (second_true (not (list_any (eqb x) xs)) (are_different xs) e)

module _ (names : List ℕ) (left v : ℕ) (seen : List ℕ) (some : 0 < left) (at : slice_get names (left - 1) ≡ Some v) (has : (u : ℕ) → list_any (eqb u) seen ≡ list_any (eqb u) (drop left names)) where
  next : drop (left - 1) names ≡ v ∷ drop left names
  next = let k : suc (left - 1) ≡ left = omega (arith, some) in drop_next names (left - 1) v at ∙ ap (λ n. v ∷ drop n names) k

  pub differ_less : false ≡ not (list_any (eqb v) seen) → false ≡ are_different names
  differ_less e =
      let twice : list_any (eqb v) (drop left names) ≡ true = sym (has v) ∙ not_true _ e in
      let not_here : are_different (drop (left - 1) names) ≡ false = ap are_different next ∙ ap (λ b. not b && are_different (drop left names)) twice in
      elim (are_different names) as (λ b. are_different names ≡ b → false ≡ b) [
        | true ↦ λ q. absurd (let z = different_behind names (left - 1) q in cc)
        | false ↦ λ q. refl
      ] refl

  pub differ_more : (new : List ℕ) → are_different (drop left names) ≡ true → true ≡ not (list_any (eqb v) seen) → new ≡ seen ++ v ∷ [] → (are_different (drop (left - 1) names) ≡ true) × ((u : ℕ) → list_any (eqb u) new ≡ list_any (eqb u) (drop (left - 1) names))
  differ_more new d e n =
      let once : list_any (eqb v) (drop left names) ≡ false = sym (has v) ∙ not_false _ e in (
        ap are_different next ∙ (ap (λ b. not b && are_different (drop left names)) once ∙ d),
        λ u. ap (list_any (eqb u)) n ∙ (any_push (eqb u) seen v ∙ (ap (λ b. b || eqb u v) (has u) ∙ (or_comm (list_any (eqb u) (drop left names)) (eqb u v) ∙ ap (list_any (eqb u)) (sym next)))),
      )

-- ---- a name more in a set
already : (old : List ℕ) (u v : ℕ) → list_any (eqb v) old ≡ true → list_any (eqb u) old ≡ (list_any (eqb u) old || eqb u v)
already old u v h = elim (eqb u v) as (λ b. eqb u v ≡ b → list_any (eqb u) old ≡ (list_any (eqb u) old || b)) [
  | true ↦ λ q. let same : u ≡ v = eqb-true u v q in let t : list_any (eqb u) old ≡ true = ap (λ w. list_any (eqb w) old) same ∙ h in t ∙ sym (or_comm (list_any (eqb u) old) true)
  | false ↦ λ q. or_comm false (list_any (eqb u) old)
] refl

inserted : (b : Bool) (old new : List ℕ) (v : ℕ) → b ≡ not (list_any (eqb v) old) → new ≡ cond b (old ++ v ∷ []) old → (u : ℕ) → list_any (eqb u) new ≡ (list_any (eqb u) old || eqb u v)
inserted true old new v e n u = ap (list_any (eqb u)) n ∙ any_push (eqb u) old v
inserted false old new v e n u = ap (list_any (eqb u)) n ∙ already old u v (not_true _ e)

move : (a b c : Bool) → ((a || b) || c) ≡ ((a || c) || b)
move true b c = refl
move false true true = refl
move false true false = refl
move false false true = refl
move false false false = refl

pub bound_more : (names init old new : List ℕ) (i v : ℕ) (b : Bool) → slice_get names i ≡ Some v → b ≡ not (list_any (eqb v) old) → new ≡ cond b (old ++ v ∷ []) old
    → ((u : ℕ) → list_any (eqb u) old ≡ (list_any (eqb u) (take i names) || list_any (eqb u) init))
    → (u : ℕ) → list_any (eqb u) new ≡ (list_any (eqb u) (take (suc i) names) || list_any (eqb u) init)
bound_more names init old new i v b at e n h u =
    inserted b old new v e n u ∙ (ap (λ z. z || eqb u v) (h u) ∙ (move (list_any (eqb u) (take i names)) (list_any (eqb u) init) (eqb u v)
    ∙ ap (λ z. z || list_any (eqb u) init) (sym (any_push (eqb u) (take i names) v) ∙ ap (list_any (eqb u)) (sym (take_next names i v at)))))

pub bound_same : (init old new : List ℕ) (v : ℕ) (b : Bool) → new ≡ cond b (old ++ v ∷ []) old → length init ≤ length old → take (length init) old ≡ init → take (length init) new ≡ init
bound_same init old new v true n l h = ap (take (length init)) n ∙ (take-append-le (length init) old (v ∷ []) l ∙ h)
bound_same init old new v false n l h = ap (take (length init)) n ∙ h

pub bound_length : (init old new : List ℕ) (v : ℕ) (b : Bool) → new ≡ cond b (old ++ v ∷ []) old → length init ≤ length old → length init ≤ length new
bound_length init old new v true n l = subst (λ (z : List ℕ). length init ≤ length z) (sym n) (omega (arith, l, length_push old v))
bound_length init old new v false n l = subst (λ (z : List ℕ). length init ≤ length z) (sym n) l
