-- Numbers that stand apart, as a fact and as a test, and in another order.
use Rattle.std.proofs.Common.{◌≡◌, ◌∙◌, ap, sym, refl, subst, ℕ, zero, suc, ◌+◌, ◌<◌, ◌≤◌, Bool, true, false, not, cond, ◌||◌, eqb, eq-eqb, ltb, leb, List, [], ◌∷◌, ◌++◌, length, get_or, arith, inl, inr}
use Rattle.std.specs.List.{list_any, sum_by}
use Rattle.std.specs.List.Sorted.{IsPermutation}
use Rattle.std.proofs.lemmas.List.Sorted.{sum_by-IsPermutation}
use Rattle.std.proofs.lemmas.Bool.{lt-ltb, ltb-true}
use Rattle.std.proofs.lemmas.List.Recursion.{is_sum_by}
use Rattle.shape_spec.specs.ShapeSeen.{ShapeSeen, Boolean, Integer, Choice, Constant, Pair}
use Rattle.shape_spec.specs.Indices.{IsNotIn, AreApart, AllBelow, IsShape}
use Rattle.shape_spec.specs.BindingsMeant.{are_below, is_shape}
use Rattle.gl_logic.specs.NameSets.{are_different}
use Rattle.shape_spec.proofs.Fits.{bool_cases, true_false, and_first, and_second, and_both, leb_le, le_leb}

-- ---- lists one after the other
pub not_in_left : (x : ℕ) (xs ys : List ℕ) → IsNotIn x (xs ++ ys) → IsNotIn x xs
not_in_left x [] ys h = tt
not_in_left x (y ∷ xs) ys h = (h.0, not_in_left x xs ys h.1)

pub not_in_right : (x : ℕ) (xs ys : List ℕ) → IsNotIn x (xs ++ ys) → IsNotIn x ys
not_in_right x [] ys h = h
not_in_right x (y ∷ xs) ys h = not_in_right x xs ys h.1

pub apart_left : (xs ys : List ℕ) → AreApart (xs ++ ys) → AreApart xs
apart_left [] ys h = tt
apart_left (x ∷ xs) ys h = (not_in_left x xs ys h.0, apart_left xs ys h.1)

pub apart_right : (xs ys : List ℕ) → AreApart (xs ++ ys) → AreApart ys
apart_right [] ys h = h
apart_right (x ∷ xs) ys h = apart_right xs ys h.1

not_in_push : (x y : ℕ) (xs : List ℕ) → IsNotIn x xs → (x ≡ y → ⊥) → IsNotIn x (xs ++ y ∷ [])
not_in_push x y [] h n = (n, tt)
not_in_push x y (z ∷ xs) h n = (h.0, not_in_push x y xs h.1 n)

pub apart_push : (xs : List ℕ) (x : ℕ) → AreApart xs → IsNotIn x xs → AreApart (xs ++ x ∷ [])
apart_push [] x h n = (tt, tt)
apart_push (y ∷ xs) x h n = (not_in_push y x xs h.0 (λ e. n.0 (sym e)), apart_push xs x h.1 n.1)

pub last_not_in : (xs : List ℕ) (x : ℕ) → AreApart (xs ++ x ∷ []) → IsNotIn x xs
last_not_in [] x h = tt
last_not_in (y ∷ xs) x h = (λ e. (not_in_right y xs (x ∷ []) h.0).0 (sym e), last_not_in xs x h.1)

pub not_in_from : (x : ℕ) (xs : List ℕ) → ((k : ℕ) → k < length xs → get_or xs k 0 ≡ x → ⊥) → IsNotIn x xs
not_in_from x [] h = tt
not_in_from x (y ∷ xs) h = (λ e. h 0 (omega arith) (sym e), not_in_from x xs (λ k l. h (suc k) (omega (arith, l))))

pub not_in_at : (x : ℕ) (xs : List ℕ) (k : ℕ) → IsNotIn x xs → k < length xs → get_or xs k 0 ≡ x → ⊥
not_in_at x [] k h l e = absurd (omega (arith, l))
not_in_at x (y ∷ xs) zero h l e = h.0 (sym e)
not_in_at x (y ∷ xs) (suc k) h l e = not_in_at x xs k h.1 (omega (arith, l)) e

-- ---- in another order
abbrev pub count : ℕ → List ℕ → ℕ
count i [] = 0
count i (x ∷ xs) = cond (eqb x i) 1 0 + count i xs

count_sum : (i : ℕ) (xs : List ℕ) → count i xs ≡ sum_by (λ j. cond (eqb j i) 1 0) xs
count_sum i xs = is_sum_by (count i) (λ j. cond (eqb j i) 1 0) refl (λ x ys. refl) xs

eqb_is : (a b : ℕ) → eqb a b ≡ true → a ≡ b
eqb_is a b h = grind (arith, h)

eqb_apart : (a b : ℕ) → (a ≡ b → ⊥) → eqb a b ≡ false
eqb_apart a b h = grind arith

one : (b : Bool) → b ≡ true → let m : ℕ = cond b 1 0 in m ≡ 1
one true h = refl
one false h = absurd cc

none : (b : Bool) → b ≡ false → let m : ℕ = cond b 1 0 in m ≡ 0
none true h = absurd cc
none false h = refl

count_none : (i : ℕ) (xs : List ℕ) → IsNotIn i xs → count i xs ≡ 0
count_none i [] h = refl
count_none i (x ∷ xs) h = let r = count_none i xs h.1 in let n = none (eqb x i) (eqb_apart x i (λ e. h.0 (sym e))) in omega (arith, r, n)

none_count : (i : ℕ) (xs : List ℕ) → count i xs ≡ 0 → IsNotIn i xs
none_count i [] h = tt
none_count i (x ∷ xs) h =
    (λ e. let n = one (eqb x i) (eq-eqb x i (sym e)) in absurd (omega (arith, n, h)), none_count i xs (omega (arith, h)))

at_most_one : (b : Bool) → let m : ℕ = cond b 1 0 in m ≤ 1
at_most_one true = omega arith
at_most_one false = omega arith

apart_count : (xs : List ℕ) → AreApart xs → (i : ℕ) → count i xs ≤ 1
apart_count [] h i = omega arith
apart_count (x ∷ xs) h i = elim (bool_cases (eqb x i)) [
  | inl t ↦ let r = count_none i xs (subst (λ y. IsNotIn y xs) (eqb_is x i t) h.0) in let n = one (eqb x i) t in omega (arith, r, n)
  | inr f ↦ let r = apart_count xs h.1 i in let n = none (eqb x i) f in omega (arith, r, n)
]

count_apart : (xs : List ℕ) → ((i : ℕ) → count i xs ≤ 1) → AreApart xs
count_apart [] h = tt
count_apart (x ∷ xs) h =
    (none_count x xs (let n = one (eqb x x) (eq-eqb x x refl) in let m = h x in omega (arith, n, m)), count_apart xs (λ i. let m = h i in omega (arith, m)))

pub apart_order : (xs ys : List ℕ) → IsPermutation xs ys → AreApart xs → AreApart ys
apart_order xs ys p h = count_apart ys (λ i. let m = apart_count xs h i in omega (arith, m, sum_by-IsPermutation (λ j. cond (eqb j i) 1 0) xs ys p, count_sum i xs, count_sum i ys))

-- ---- the tests
pub not_any : (x : ℕ) (xs : List ℕ) → list_any (eqb x) xs ≡ false → IsNotIn x xs
not_any x [] h = tt
not_any x (y ∷ xs) h = elim (bool_cases (eqb x y)) [
  | inl t ↦ absurd (let e = sym (ap (λ b. b || list_any (eqb x) xs) t) ∙ h in cc)
  | inr f ↦ (λ e. true_false (eqb x y) (eq-eqb x y e) f, not_any x xs (sym (ap (λ b. b || list_any (eqb x) xs) f) ∙ h))
]

pub any_not : (x : ℕ) (xs : List ℕ) → IsNotIn x xs → list_any (eqb x) xs ≡ false
any_not x [] h = refl
any_not x (y ∷ xs) h = ap (λ b. b || list_any (eqb x) xs) (eqb_apart x y h.0) ∙ any_not x xs h.1

not_is_false : (b : Bool) → not b ≡ true → b ≡ false
not_is_false true h = absurd cc
not_is_false false h = refl

pub different_apart : (xs : List ℕ) → are_different xs ≡ true → AreApart xs
different_apart [] h = tt
different_apart (x ∷ xs) h =
    (not_any x xs (not_is_false (list_any (eqb x) xs) (and_first (not (list_any (eqb x) xs)) (are_different xs) h)), different_apart xs (and_second (not (list_any (eqb x) xs)) (are_different xs) h))

pub apart_different : (xs : List ℕ) → AreApart xs → are_different xs ≡ true
apart_different [] h = refl
apart_different (x ∷ xs) h = and_both (not (list_any (eqb x) xs)) (are_different xs) (ap not (any_not x xs h.0)) (apart_different xs h.1)

pub below_from : (xs : List ℕ) → are_below xs ≡ true → AllBelow 1000000 xs
below_from [] h = tt
below_from (x ∷ xs) h = (ltb-true x 1000000 (and_first (ltb x 1000000) (are_below xs) h), below_from xs (and_second (ltb x 1000000) (are_below xs) h))

pub below_to : (xs : List ℕ) → AllBelow 1000000 xs → are_below xs ≡ true
below_to [] h = refl
below_to (x ∷ xs) h = and_both (ltb x 1000000) (are_below xs) (lt-ltb x 1000000 h.0) (below_to xs h.1)

pub shape_from : (s : ShapeSeen) → is_shape s ≡ true → IsShape s
shape_from (Boolean i) h = tt
shape_from (Integer is) h = (leb_le 1 (length is) (and_first (leb 1 (length is)) (leb (length is) 128) h), leb_le (length is) 128 (and_second (leb 1 (length is)) (leb (length is) 128) h))
shape_from (Choice i x y) h = (shape_from x (and_first (is_shape x) (is_shape y) h), shape_from y (and_second (is_shape x) (is_shape y) h))
shape_from (Constant x) h = tt
shape_from (Pair x y) h = (shape_from x (and_first (is_shape x) (is_shape y) h), shape_from y (and_second (is_shape x) (is_shape y) h))

pub shape_to : (s : ShapeSeen) → IsShape s → is_shape s ≡ true
shape_to (Boolean i) h = refl
shape_to (Integer is) h = and_both (leb 1 (length is)) (leb (length is) 128) (le_leb 1 (length is) h.0) (le_leb (length is) 128 h.1)
shape_to (Choice i x y) h = and_both (is_shape x) (is_shape y) (shape_to x h.0) (shape_to y h.1)
shape_to (Constant x) h = refl
shape_to (Pair x y) h = and_both (is_shape x) (is_shape y) (shape_to x h.0) (shape_to y h.1)
