-- Parameters in objects, and lists of parameters.
use Rattle.std.proofs.Common.{◌≡◌, ◌∙◌, ap, sym, refl, ℕ, zero, suc, ◌≤◌, Bool, true, false, not, ◌&&◌, ◌||◌, eqb, List, [], ◌∷◌, ◌++◌, map, drop, take, length, slice_get, Option, Some, None, arith}
use Rattle.std.specs.Prelude.{bytes_eq}
use Rattle.std.specs.List.{list_any, list_all}
use Rattle.gl_logic.specs.Object.{Object, Int, Character, Symbol, Text, Cons}
use Rattle.gl_logic.specs.Lists.{elements_of, tail_of}
use Rattle.event_world.specs.CasesForms.{CasesParts, has_any_in, is_without, are_without}
use Rattle.event_world.specs.CasesMeant.{CaseParts, has_any}

or_assoc : (a b c : Bool) → (a || (b || c)) ≡ ((b || a) || c)
or_assoc true true c = refl
or_assoc true false c = refl
or_assoc false true c = refl
or_assoc false false c = refl

any_push : {A : Type 0} (p : A → Bool) (xs : List A) (x : A) → list_any p (xs ++ x ∷ []) ≡ (list_any p xs || p x)
any_push p [] x = elim (p x) as (λ b. (b || false) ≡ b) [ true ↦ refl | false ↦ refl ]
any_push p (y ∷ ys) x = elim (p y) as (λ b. (b || list_any p (ys ++ x ∷ [])) ≡ ((b || list_any p ys) || p x)) [ true ↦ refl | false ↦ any_push p ys x ]

-- ---- in a list's elements and its tail
pub any_whole : (vs : List ℕ) (x : Object) → has_any vs x ≡ (list_any (has_any vs) (elements_of x) || has_any vs (tail_of x))
any_whole vs (Int z) = refl
any_whole vs (Character n) = refl
any_whole vs (Symbol n) = refl
any_whole vs (Text n) = refl
any_whole vs (Cons a d) = ap (λ b. has_any vs a || b) (any_whole vs d) ∙ (or_assoc (has_any vs a) (list_any (has_any vs) (elements_of d)) (has_any vs (tail_of d)) ∙ ap (λ b. b || has_any vs (tail_of d)) (sym (any_push (has_any vs) (elements_of d) a)))

-- ---- of two lists with the same names
module _ (us vs : List ℕ) (same : (v : ℕ) → list_any (eqb v) us ≡ list_any (eqb v) vs) where
  any_same : (x : Object) → has_any us x ≡ has_any vs x
  any_same (Int z) = refl
  any_same (Character n) = refl
  any_same (Symbol t) = same t
  any_same (Text t) = refl
  any_same (Cons a d) = λ i. any_same a i || any_same d i

  any_in_same : (o : Option Object) → has_any_in us o ≡ has_any_in vs o
  any_in_same None = refl
  any_in_same (Some x) = any_same x

  without_same : (p : CasesParts) → is_without us p ≡ is_without vs p
  without_same p = λ i. not (any_in_same p.hyp i) && (not (any_same p.concl i) && not (any_same p.cover i))

  all_without_same : (cs : List CaseParts) → are_without us cs ≡ are_without vs cs
  all_without_same [] = refl
  all_without_same (c ∷ cs) = λ i. not (any_same c.bindings i) && all_without_same cs i

  pub kept_same : (p : CasesParts) (cs : List CaseParts) → (is_without us p && are_without us cs) ≡ (is_without vs p && are_without vs cs)
  kept_same p cs = λ i. without_same p i && all_without_same cs i

-- ---- lists of parameters, compared from a place on
abbrev names_in : List (ℕ × Object) → List ℕ
names_in ks = map (λ k. k.0) ks

abbrev pub same_from : List (ℕ × Object) → List (ℕ × Object) → ℕ → Bool
same_from ks js i = bytes_eq (names_in (drop i ks)) (names_in (drop i js))

pub same_next : (ks js : List (ℕ × Object)) (i : ℕ) (k j : ℕ × Object) → slice_get ks i ≡ Some k → slice_get js i ≡ Some j → k.0 ≡ j.0 → same_from ks js (suc i) ≡ same_from ks js i
same_next [] js i k j p q e = absurd cc
same_next (x ∷ ks) [] i k j p q e = absurd cc
same_next (x ∷ ks) (y ∷ js) zero k j p q e = grind (arith, p, q, e)
same_next (x ∷ ks) (y ∷ js) (suc i) k j p q e = same_next ks js i k j p q e

pub same_not : (ks js : List (ℕ × Object)) (i : ℕ) (k j : ℕ × Object) → slice_get ks i ≡ Some k → slice_get js i ≡ Some j → eqb k.0 j.0 ≡ false → same_from ks js i ≡ false
same_not [] js i k j p q e = absurd cc
same_not (x ∷ ks) [] i k j p q e = absurd cc
same_not (x ∷ ks) (y ∷ js) zero k j p q e = grind (arith, p, q, e)
same_not (x ∷ ks) (y ∷ js) (suc i) k j p q e = same_not ks js i k j p q e

pub same_end : (ks js : List (ℕ × Object)) (i : ℕ) → length ks ≡ length js → length ks ≤ i → same_from ks js i ≡ true
same_end [] [] zero h l = refl
same_end [] [] (suc i) h l = refl
same_end [] (y ∷ js) i h l = absurd (omega (arith, h))
same_end (x ∷ ks) [] i h l = absurd (omega (arith, h))
same_end (x ∷ ks) (y ∷ js) zero h l = absurd (omega (arith, l))
same_end (x ∷ ks) (y ∷ js) (suc i) h l = same_end ks js i (omega (arith, h)) (omega (arith, l))

pub differ_in_length : (ks js : List ℕ) → (length ks ≡ length js → ⊥) → bytes_eq ks js ≡ false
differ_in_length [] [] h = absurd (h refl)
differ_in_length [] (y ∷ js) h = refl
differ_in_length (x ∷ ks) [] h = refl
differ_in_length (x ∷ ks) (y ∷ js) h = grind (arith, differ_in_length ks js (λ e. h (ap suc e)))

-- ---- from a place on, and up to a place
pub rest_at : {A : Type 0} (xs : List A) (i : ℕ) (x : A) → slice_get xs i ≡ Some x → drop i xs ≡ x ∷ drop (suc i) xs
rest_at [] i x e = absurd cc
rest_at (y ∷ xs) zero x e = let f : y ≡ x = cc in ap (λ z. z ∷ xs) f
rest_at (y ∷ xs) (suc i) x e = rest_at xs i x e

pub front_more : {A B : Type 0} (f : A → B) (xs : List A) (i : ℕ) (x : A) → slice_get xs i ≡ Some x → map f (take (suc i) xs) ≡ map f (take i xs) ++ f x ∷ []
front_more f [] i x e = absurd cc
front_more f (y ∷ xs) zero x e = let g : y ≡ x = cc in ap (λ z. f z ∷ []) g
front_more f (y ∷ xs) (suc i) x e = ap (λ zs. f y ∷ zs) (front_more f xs i x e)

pub all_next : {A : Type 0} (p : A → Bool) (xs : List A) (i : ℕ) (x : A) → slice_get xs i ≡ Some x → p x ≡ true → list_all p (drop (suc i) xs) ≡ list_all p (drop i xs)
all_next p xs i x e h = sym (ap (list_all p) (rest_at xs i x e) ∙ ap (λ b. b && list_all p (drop (suc i) xs)) h)

pub all_not : {A : Type 0} (p : A → Bool) (xs : List A) (i : ℕ) (x : A) → slice_get xs i ≡ Some x → p x ≡ false → list_all p (drop i xs) ≡ false
all_not p xs i x e h = ap (list_all p) (rest_at xs i x e) ∙ ap (λ b. b && list_all p (drop (suc i) xs)) h

pub both_false : (a b : Bool) → a ≡ true → b ≡ false → (a && b) ≡ false
both_false a b h k = ap (λ c. c && b) h ∙ k
