-- Equal objects, lists of literals and conjuncts, as the code finds them.
use Rattle.std.proofs.Common.{◌≡◌, ◌∙◌, ap, sym, refl, ℕ, ◌+◌, ◌<◌, ◌≤◌, Bool, true, false, ◌&&◌, ◌||◌, List, [], ◌∷◌, ◌++◌, map, length, get_or, drop, inl, inr}
use Rattle.std.specs.Bool.{IsTrue}
use Rattle.std.specs.List.{list_any}
use Rattle.std.proofs.lemmas.List.{drop_more, drop_all}
use Rattle.std.proofs.lemmas.Bool.{eqb-true}
use Rattle.gl_logic.specs.Object.{Object, Int, Character, Symbol, Text, Cons, nil}
use Rattle.gl_logic.specs.ObjectEq.{object_eq, is_nil}
use Rattle.gl_logic.specs.Lists.{elements_of, tail_of}
use Rattle.gl_logic.specs.Exp.{Exp}
use Rattle.gl_logic.proofs.Equality.{equal_from, equal_itself}
use Rattle.coverage.specs.Rows.{are_all}
use Rattle.coverage.proofs.Logic.{bool_cases}

-- ---- a conjunct that passes
module _ {A : Type 0} (row : Exp → Bool) (term : A → Exp) where
  pub row_hit : (xs : List A) (i : ℕ) (x : A) (whole : Bool) → i < length xs → x ≡ get_or xs i x → row (term x) ≡ true → list_any row (map term (drop i xs)) ≡ whole → true ≡ whole
  row_hit xs i x whole h at t w =
      let at_i : drop i xs ≡ x ∷ drop (i + 1) xs = drop_more xs i x h ∙ ap (λ y. y ∷ drop (i + 1) xs) (sym at) in
      sym (ap (λ q. q || list_any row (map term (drop (i + 1) xs))) t) ∙ (ap (λ ys. list_any row (map term ys)) (sym at_i) ∙ w)

  pub row_miss : (xs : List A) (i : ℕ) (x : A) (whole : Bool) → i < length xs → x ≡ get_or xs i x → row (term x) ≡ false → list_any row (map term (drop i xs)) ≡ whole → list_any row (map term (drop (i + 1) xs)) ≡ whole
  row_miss xs i x whole h at t w =
      let at_i : drop i xs ≡ x ∷ drop (i + 1) xs = drop_more xs i x h ∙ ap (λ y. y ∷ drop (i + 1) xs) (sym at) in
      sym (ap (λ q. q || list_any row (map term (drop (i + 1) xs))) t) ∙ (ap (λ ys. list_any row (map term ys)) (sym at_i) ∙ w)

-- ---- equal objects
pub told_equal : (x y : Object) (b : Bool) → (IsTrue b → x ≡ y) → (x ≡ y → IsTrue b) → b ≡ object_eq x y
told_equal x y true f g = sym (ap (object_eq x) (sym (f refl)) ∙ equal_itself x)
told_equal x y false f g = elim (bool_cases (object_eq x y)) [
  | inl t ↦ absurd (let e = g (equal_from x y t) in cc)
  | inr t ↦ sym t
]

-- ---- lists of literals
abbrev pub each : (Object → Bool) → List Object → Bool
each test [] = true
each test (x ∷ xs) = test x && each test xs

swapped : (a b c : Bool) → (a && (b && c)) ≡ (b && (a && c))
swapped true b c = refl
swapped false true c = refl
swapped false false c = refl

each_last : (test : Object → Bool) (xs : List Object) (x : Object) → each test (xs ++ x ∷ []) ≡ (test x && each test xs)
each_last test [] x = refl
each_last test (y ∷ xs) x = ap (λ b. test y && b) (each_last test xs x) ∙ swapped (test y) (test x) (each test xs)

joined : (a b c : Bool) → (a && (b && c)) ≡ ((a && b) && c)
joined true b c = refl
joined false b c = refl

pub all_by_elements : (test : Object → Bool) (x : Object) → are_all test x ≡ (each test (elements_of x) && is_nil (tail_of x))
all_by_elements test (Cons a d) =
    ap (λ b. test a && b) (all_by_elements test d)
    ∙ (joined (test a) (each test (elements_of d)) (is_nil (tail_of d)) ∙ ap (λ b. b && is_nil (tail_of d)) (sym (each_last test (elements_of d) a)))
all_by_elements test (Int z) = refl
all_by_elements test (Character z) = refl
all_by_elements test (Symbol z) = refl
all_by_elements test (Text z) = refl

pub all_missed : (test : Object → Bool) (x : Object) (xs : List Object) (i : ℕ) (e : Object) → xs ≡ elements_of x → i < length xs → e ≡ get_or xs i e → false ≡ test e → each test (drop i xs) ≡ each test xs
    → false ≡ are_all test x
all_missed test x xs i e s h at m w =
    let at_i : drop i xs ≡ e ∷ drop (i + 1) xs = drop_more xs i e h ∙ ap (λ y. y ∷ drop (i + 1) xs) (sym at) in
    let none : false ≡ each test xs = ap (λ b. b && each test (drop (i + 1) xs)) m ∙ (ap (each test) (sym at_i) ∙ w) in
    ap (λ b. b && is_nil (tail_of x)) (none ∙ ap (each test) s) ∙ sym (all_by_elements test x)

pub each_more : (test : Object → Bool) (xs : List Object) (i : ℕ) (e : Object) → i < length xs → e ≡ get_or xs i e → true ≡ test e → each test (drop i xs) ≡ each test xs → each test (drop (i + 1) xs) ≡ each test xs
each_more test xs i e h at m w =
    let at_i : drop i xs ≡ e ∷ drop (i + 1) xs = drop_more xs i e h ∙ ap (λ y. y ∷ drop (i + 1) xs) (sym at) in
    ap (λ b. b && each test (drop (i + 1) xs)) m ∙ (ap (each test) (sym at_i) ∙ w)

nil_from : (t : Object) → is_nil t ≡ true → t ≡ nil
nil_from (Symbol k) h = ap Symbol (eqb-true k 0 h)
nil_from (Int k) h = absurd cc
nil_from (Character k) h = absurd cc
nil_from (Text k) h = absurd cc
nil_from (Cons a d) h = absurd cc

nil_is : (t : Object) (b : Bool) → (IsTrue b → t ≡ nil) → (t ≡ nil → IsTrue b) → b ≡ is_nil t
nil_is t true f g = ap is_nil (sym (f refl))
nil_is t false f g = elim (bool_cases (is_nil t)) [
  | inl h ↦ absurd (let e = g (nil_from t h) in cc)
  | inr h ↦ sym h
]

pub all_met : (test : Object → Bool) (x : Object) (xs : List Object) (i : ℕ) (t : Object) (b : Bool) → xs ≡ elements_of x → length xs ≤ i → each test (drop i xs) ≡ each test xs → t ≡ tail_of x
    → (IsTrue b → t ≡ nil) → (t ≡ nil → IsTrue b) → b ≡ are_all test x
all_met test x xs i t b s h w e f g =
    let all : true ≡ each test xs = ap (each test) (sym (drop_all i xs h)) ∙ w in
    nil_is t b f g ∙ (ap is_nil e ∙ (ap (λ q. q && is_nil (tail_of x)) (all ∙ ap (each test) s) ∙ sym (all_by_elements test x)))
