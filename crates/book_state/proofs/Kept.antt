-- Lists of functions, one element at a time.
use Rattle.std.proofs.Common.{◌≡◌, ◌∙◌, ap, sym, refl, ℕ, zero, suc, ◌+◌, ◌≤◌, List, [], ◌∷◌, ◌++◌, length, take, Some, slice_get, Bool, true, false, cond, ◌||◌, append-nil}
use Rattle.std.specs.List.{list_any, filter}
use Rattle.std.proofs.lemmas.List.{take_all, take_more}
use Rattle.std.proofs.lemmas.List.Folds.{list_any-append}
use Rattle.std.proofs.lemmas.Option.{get_or_from_slice_get, slice_get_within}

-- the elements up to one that is known by its place
taken : (xs : List ℕ) (i x : ℕ) → slice_get xs i ≡ Some x → take (i + 1) xs ≡ take i xs ++ x ∷ []
taken xs i x at = take_more xs i x (slice_get_within xs i x at) ∙ ap (λ y. take i xs ++ y ∷ []) (get_or_from_slice_get xs i x x at)

module _ (p : ℕ → Bool) where
  pub any_at : (xs : List ℕ) (i x : ℕ) → slice_get xs i ≡ Some x → p x ≡ true → list_any p xs ≡ true
  any_at [] i x at h = absurd cc
  any_at (y ∷ ys) zero x at h = let z : y ≡ x = cc in ap (λ b. b || list_any p ys) (ap p z ∙ h)
  any_at (y ∷ ys) (suc i) x at h = ap (λ b. p y || b) (any_at ys i x at h) ∙ either (p y)
    where
      either : (b : Bool) → (b || true) ≡ true
      either true = refl
      either false = refl

  pub any_more : (xs : List ℕ) (i x : ℕ) → slice_get xs i ≡ Some x → p x ≡ false → list_any p (take i xs) ≡ false → list_any p (take (i + 1) xs) ≡ false
  any_more xs i x at h so_far =
      ap (list_any p) (taken xs i x at) ∙ (list_any-append p (take i xs) (x ∷ []) ∙ (ap (λ b. b || (p x || false)) so_far ∙ ap (λ b. b || false) h))

  onto : (x : ℕ) (b : Bool) (front back whole : List ℕ) → whole ≡ front ++ back → cond b (x ∷ whole) whole ≡ cond b (x ∷ front) front ++ back
  onto x true front back whole e = ap (λ zs. x ∷ zs) e
  onto x false front back whole e = e

  filter_append : (xs ys : List ℕ) → filter p (xs ++ ys) ≡ filter p xs ++ filter p ys
  filter_append [] ys = refl
  filter_append (x ∷ xs) ys = onto x (p x) (filter p xs) (filter p ys) (filter p (xs ++ ys)) (filter_append xs ys)

  pub kept_more : (xs : List ℕ) (i x : ℕ) → slice_get xs i ≡ Some x → p x ≡ true → filter p (take i xs) ++ x ∷ [] ≡ filter p (take (i + 1) xs)
  kept_more xs i x at h = sym (ap (filter p) (taken xs i x at) ∙ (filter_append (take i xs) (x ∷ []) ∙ ap (λ b. filter p (take i xs) ++ cond b (x ∷ []) []) h))

  pub left_more : (xs : List ℕ) (i x : ℕ) → slice_get xs i ≡ Some x → p x ≡ false → filter p (take i xs) ≡ filter p (take (i + 1) xs)
  left_more xs i x at h = sym (ap (filter p) (taken xs i x at) ∙ (filter_append (take i xs) (x ∷ []) ∙ (ap (λ b. filter p (take i xs) ++ cond b (x ∷ []) []) h ∙ append-nil (filter p (take i xs)))))

pub all_taken : (xs : List ℕ) (i : ℕ) → length xs ≤ i → take i xs ≡ xs
all_taken xs i h = take_all i xs h
