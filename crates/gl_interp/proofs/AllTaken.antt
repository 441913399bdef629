-- What holds of all items of a list that are taken.
use Rattle.std.proofs.Common.{◌≡◌, ap, sym, refl, subst, ℕ, zero, suc, ◌+◌, ◌<◌, ◌≤◌, arith, List, [], ◌∷◌, length, take, get_or}
use Rattle.std.specs.List.{All}
use Rattle.std.proofs.lemmas.List.{take_more}
use Rattle.std.proofs.lemmas.List.Elements.{All-append}
use Rattle.sym_objects.specs.declared.sob.Sob.{Sob}
use Rattle.gl_interp.specs.Envs.{AllBelow}

one : (P : Sob → Type 0) (x : Sob) → P x → All P (x ∷ [])
one P x h zero d l = h
one P x h (suc k) d l = absurd (omega (arith, l))

pub all_next : (P : Sob → Type 0) (xs : List Sob) (i : ℕ) (d : Sob) → i < length xs → All P (take i xs) → P (get_or xs i d) → All P (take (i + 1) xs)
all_next P xs i d l h p = subst (λ ys. All P ys) (sym (take_more xs i d l)) (All-append P (take i xs) (get_or xs i d ∷ []) h (one P (get_or xs i d) p))

take_enough : (xs : List Sob) (i : ℕ) → length xs ≤ i → take i xs ≡ xs
take_enough [] zero h = refl
take_enough [] (suc i) h = refl
take_enough (x ∷ xs) zero h = absurd (omega (arith, h))
take_enough (x ∷ xs) (suc i) h = ap (λ zs. x ∷ zs) (take_enough xs i (omega (arith, h)))

pub all_done : (P : Sob → Type 0) (xs : List Sob) (i : ℕ) → length xs ≤ i → All P (take i xs) → All P xs
all_done P xs i l h = subst (λ ys. All P ys) (take_enough xs i l) h

pub all_below : (n : ℕ) (xs : List Sob) → AllBelow n xs → All (λ x. x.number < n) xs
all_below n [] h k d l = absurd (omega (arith, l))
all_below n (x ∷ xs) h zero d l = h.0
all_below n (x ∷ xs) h (suc k) d l = all_below n xs h.1 k d (omega (arith, l))
