-- The room that literals need.
use Rattle.std.proofs.Common.{◌≡◌, subst, ℕ, zero, suc, ℤ, ◌+◌, ◌<◌, ◌≤◌, List, [], ◌∷◌, length, get_or, take, arith, All}
use Rattle.std.proofs.lemmas.List.Elements.{All-cons, All-head, All-nil, All-tail, All-weaker}
use Rattle.cnf_rup.specs.Marked.{AreWithin, IsWithin}

next_is : (i : ℕ) → suc i ≡ i + 1
next_is i = omega arith

module _ {X : Type 0} (P : X → Type 0) where
  one_more : (xs : List X) (i : ℕ) (d : X) → i < length xs → All P (take i xs) → P (get_or xs i d) → All P (take (suc i) xs)
  one_more [] i d l h p = absurd (omega (arith, l))
  one_more (x ∷ xs) zero d l h p = All-cons P x [] p (All-nil P)
  one_more (x ∷ xs) (suc i) d l h p = All-cons P x (take (suc i) xs) (All-head P x (take i xs) h) (one_more xs i d (omega (arith, l)) (All-tail P x (take i xs) h) p)

  pub all_push : (xs : List X) (i : ℕ) (d : X) → i < length xs → All P (take i xs) → P (get_or xs i d) → All P (take (i + 1) xs)
  all_push xs i d l h p = subst (λ (n : ℕ). All P (take n xs)) (next_is i) (one_more xs i d l h p)

pub wider : (r s : ℕ) (c : List ℤ) → r ≤ s → AreWithin r c → AreWithin s c
wider r s c le = All-weaker (IsWithin r) (IsWithin s) (λ l h. omega (arith, h, le)) c

pub all_wider : (r s : ℕ) (cs : List (List ℤ)) → r ≤ s → All (AreWithin r) cs → All (AreWithin s) cs
all_wider r s cs le = All-weaker (AreWithin r) (AreWithin s) (λ c. wider r s c le) cs
