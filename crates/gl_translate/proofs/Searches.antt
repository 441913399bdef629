-- Searches in lists, one element on, and what holds of all or of some.
use Rattle.std.proofs.Common.{◌≡◌, ◌∙◌, ap, sym, refl, ℕ, suc, ◌+◌, ◌<◌, ◌≤◌, Bool, true, false, cond, not, ◌&&◌, ◌||◌, eqb, List, [], ◌∷◌, ◌++◌, map, drop, get_or, length, reverse, arith, Option, Some, None}
use Rattle.std.specs.Prelude.{bytes_eq}
use Rattle.std.specs.List.{find, list_any, list_all, position_or_len}
use Rattle.std.proofs.lemmas.List.{at_drop_more, at_drop_all, reverse-append}

pub find_next : {A : Type 0} (p : A → Bool) (xs : List A) (i : ℕ) (d : A) → i < length xs → p (get_or xs i d) ≡ false → find p (drop i xs) ≡ find p (drop (i + 1) xs)
find_next p xs i d l e = at_drop_more (find p) xs i d l ∙ ap (λ b. cond b (Some (get_or xs i d)) (find p (drop (i + 1) xs))) e

pub word_next : {A : Type 0} (word : List ℕ) (f : A → List ℕ) (xs : List A) (i : ℕ) (d : A) → i < length xs → (w : List ℕ) → w ≡ f (get_or xs i d) → bytes_eq word w ≡ false
    → find (λ m. bytes_eq word (f m)) (drop i xs) ≡ find (λ m. bytes_eq word (f m)) (drop (i + 1) xs)
word_next word f xs i d l w is e = find_next (λ m. bytes_eq word (f m)) xs i d l (ap (bytes_eq word) (sym is) ∙ e)

pub all_at_false : {A : Type 0} (p : A → Bool) (xs : List A) (i : ℕ) (d : A) → i < length xs → p (get_or xs i d) ≡ false → list_all p (drop i xs) ≡ false
all_at_false p xs i d l e = at_drop_more (list_all p) xs i d l ∙ ap (λ b. b && list_all p (drop (i + 1) xs)) e

pub all_at_end : {A : Type 0} (p : A → Bool) (xs : List A) (i : ℕ) → length xs ≤ i → list_all p (drop i xs) ≡ true
all_at_end p xs i l = at_drop_all (list_all p) xs i l

-- ---- tests
pub all_push : {A : Type 0} (p : A → Bool) (xs : List A) (x : A) → list_all p (xs ++ x ∷ []) ≡ (list_all p xs && p x)
all_push p [] x = elim (p x) as (λ b. (b && true) ≡ b) [ true ↦ refl | false ↦ refl ]
all_push p (y ∷ ys) x = elim (p y) as (λ b. (b && list_all p (ys ++ x ∷ [])) ≡ ((b && list_all p ys) && p x)) [ true ↦ all_push p ys x | false ↦ refl ]

and_comm : (a b : Bool) → (a && b) ≡ (b && a)
and_comm true true = refl
and_comm true false = refl
and_comm false true = refl
and_comm false false = refl

pub all_reverse : {A : Type 0} (p : A → Bool) (xs : List A) → list_all p (reverse xs) ≡ list_all p xs
all_reverse p [] = refl
all_reverse p (x ∷ xs) = ap (list_all p) (reverse-append (x ∷ []) xs) ∙ (all_push p (reverse xs) x ∙ (ap (λ b. b && p x) (all_reverse p xs) ∙ and_comm (list_all p xs) (p x)))
