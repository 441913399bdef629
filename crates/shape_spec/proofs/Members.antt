-- Indices of a list, and what depends on them alone.
use Rattle.std.proofs.Common.{◌≡◌, ◌∙◌, ap, sym, refl, ℕ, ◌<◌, ◌≤◌, Bool, cond, ltb, List, [], ◌∷◌, ◌++◌, map, length, arith, ◌⊎◌, inl, inr}
use Rattle.std.proofs.lemmas.Bool.{cases_lt}
use Rattle.gl_logic.specs.Object.{Object, Int, Cons, boolean_object}
use Rattle.gl_logic.specs.TwosComplement.{integer_of}
use Rattle.shape_spec.specs.ShapeSeen.{ShapeSeen, Boolean, Integer, Choice, Constant, Pair}
use Rattle.shape_spec.specs.Indices.{indices_in, indices_of, rank_in, width_of}
use Rattle.shape_spec.specs.InputMeant.{object_meant, truth_of, input_meant}
use Rattle.shape_spec.proofs.Smaller.{rank_small, one_at_most, not_above}

abbrev pub IsIn : ℕ → List ℕ → Type 0
IsIn x [] = ⊥
IsIn x (y ∷ ys) = (x ≡ y) ⊎ IsIn x ys

pub in_left : (x : ℕ) (xs ys : List ℕ) → IsIn x xs → IsIn x (xs ++ ys)
in_left x [] ys h = absurd h
in_left x (z ∷ xs) ys h = elim h [ inl e ↦ inl e | inr k ↦ inr (in_left x xs ys k) ]

pub in_right : (x : ℕ) (xs ys : List ℕ) → IsIn x ys → IsIn x (xs ++ ys)
in_right x [] ys h = h
in_right x (z ∷ xs) ys h = inr (in_right x xs ys h)

pub same_map : {A : Type 0} (f g : ℕ → A) (xs : List ℕ) → ((i : ℕ) → IsIn i xs → f i ≡ g i) → map f xs ≡ map g xs
same_map f g [] h = refl
same_map f g (x ∷ xs) h = λ k. h x (inl refl) k ∷ same_map f g xs (λ i l. h i (inr l)) k

-- ---- ranks
-- an index of the list has a rank below its length
pub rank_lt : (is : List ℕ) (i : ℕ) → IsIn i is → rank_in is i < length is
rank_lt [] i h = absurd h
rank_lt (x ∷ is) i h = elim h [
  | inl e ↦ let s = rank_small is i in let n : cond (ltb x i) 1 0 ≡ (let m : ℕ = 0 in m) = ap (λ y. cond (ltb y i) 1 0) (sym e) ∙ not_above i in omega (arith, s, n)
  | inr k ↦ let s = rank_lt is i k in let o = one_at_most x i in omega (arith, s, o)
]

one_grows : (x i j : ℕ) → i < j → let m : ℕ = cond (ltb x i) 1 0 in m ≤ cond (ltb x j) 1 0
one_grows x i j h = grind arith

rank_grows : (is : List ℕ) (i j : ℕ) → i < j → rank_in is i ≤ rank_in is j
rank_grows [] i j h = omega arith
rank_grows (x ∷ is) i j h = let s = rank_grows is i j h in let o = one_grows x i j h in omega (arith, s, o)

one_more : (i j : ℕ) → i < j → let m : ℕ = cond (ltb i j) 1 0 in m ≡ 1
one_more i j h = grind arith

-- a larger number has a larger rank than an index of the list
rank_above : (is : List ℕ) (i j : ℕ) → i < j → IsIn i is → rank_in is i < rank_in is j
rank_above [] i j h k = absurd k
rank_above (x ∷ is) i j h k = elim k [
  | inl e ↦
      let s = rank_grows is i j h in
      let n : cond (ltb x i) 1 0 ≡ (let m : ℕ = 0 in m) = ap (λ y. cond (ltb y i) 1 0) (sym e) ∙ not_above i in
      let o : cond (ltb x j) 1 0 ≡ (let m : ℕ = 1 in m) = ap (λ y. cond (ltb y j) 1 0) (sym e) ∙ one_more i j h in
      omega (arith, s, n, o)
  | inr l ↦ let s = rank_above is i j h l in let o = one_grows x i j h in omega (arith, s, o)
]

-- different indices have different ranks
pub same_rank : (is : List ℕ) (i j : ℕ) → IsIn i is → IsIn j is → rank_in is i ≡ rank_in is j → i ≡ j
same_rank is i j h k e = elim (cases_lt i j) [
  | inl l ↦ let s = rank_above is i j l h in absurd (omega (arith, s, e))
  | inr l ↦ elim (cases_lt j i) [
    | inl m ↦ let s = rank_above is j i m k in absurd (omega (arith, s, e))
    | inr m ↦ omega (arith, l, m)
  ]
]

-- ---- objects
pub same_object : (f g : ℕ → Bool) (s : ShapeSeen) → ((i : ℕ) → IsIn i (indices_in s) → f i ≡ g i) → object_meant f s ≡ object_meant g s
same_object f g (Boolean i) h = ap boolean_object (h i (inl refl))
same_object f g (Integer is) h = ap (λ bs. Int (integer_of bs)) (same_map f g is h)
same_object f g (Choice i x y) h =
    let left = same_object f g x (λ j l. h j (inr (in_left j (indices_in x) (indices_in y) l))) in
    let right = same_object f g y (λ j l. h j (inr (in_right j (indices_in x) (indices_in y) l))) in
    λ k. cond (h i (inl refl) k) (left k) (right k)
same_object f g (Constant x) h = refl
same_object f g (Pair x y) h =
    let left = same_object f g x (λ j l. h j (in_left j (indices_in x) (indices_in y) l)) in
    let right = same_object f g y (λ j l. h j (in_right j (indices_in x) (indices_in y) l)) in
    λ k. Cons (left k) (right k)

-- each variable with its object, where this says which indices are true
abbrev pub objects_by : (ℕ → Bool) → List (ℕ × ShapeSeen) → List (ℕ × Object)
objects_by f b = map (λ p. (p.0, object_meant f p.1)) b

same_objects : (f g : ℕ → Bool) (b : List (ℕ × ShapeSeen)) → ((i : ℕ) → IsIn i (indices_of b) → f i ≡ g i) → objects_by f b ≡ objects_by g b
same_objects f g [] h = refl
same_objects f g (p ∷ b) h =
    let first = same_object f g p.1 (λ i l. h i (in_left i (indices_in p.1) (indices_of b) l)) in
    let rest = same_objects f g b (λ i l. h i (in_right i (indices_in p.1) (indices_of b) l)) in
    λ k. (p.0, first k) ∷ rest k

-- an input depends on the truth values below the width
pub same_input : (b : List (ℕ × ShapeSeen)) (a c : ℕ → Bool) → ((k : ℕ) → k < width_of b → a k ≡ c k) → input_meant b a ≡ input_meant b c
same_input b a c h = same_objects (truth_of b a) (truth_of b c) b (λ i l. h (rank_in (indices_of b) i) (rank_lt (indices_of b) i l))
