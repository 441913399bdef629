-- Induction on pairs of naturals, the first of which decides.
use Rattle.std.proofs.Common.{◌≡◌, ◌⊎◌, inl, inr, ℕ, zero, suc, ◌<◌, ◌≤◌, arith}

-- the first decides
abbrev pub Below : ℕ × ℕ → ℕ × ℕ → Type 0
Below p q = (p.0 < q.0) ⊎ ((p.0 ≡ q.0) × (p.1 < q.1))

module _ {A : Type 0} (size : A → ℕ × ℕ) (P : A → Type 0) (step : (x : A) → ((y : A) → Below (size y) (size x) → P y) → P x) where
  below_at : (a b : ℕ) (x y : A) → ((z : A) → (size z).0 < a → P z) → ((z : A) → (size z).0 ≤ a → (size z).1 < b → P z) → (size x).0 ≤ a → (size x).1 < suc b → Below (size y) (size x) → P y
  below_at a b x y lower less h k s = elim s [ inl l ↦ lower y (omega (arith, h, l)) | inr e ↦ less y (omega (arith, h, e.0)) (omega (arith, k, e.1)) ]

  by_second : (a : ℕ) → ((z : A) → (size z).0 < a → P z) → (b : ℕ) (x : A) → (size x).0 ≤ a → (size x).1 < b → P x
  by_second a lower zero x h k = absurd (omega (arith, k))
  by_second a lower (suc b) x h k = step x (λ y. below_at a b x y lower (by_second a lower b) h k)

  by_first : (a : ℕ) (x : A) → (size x).0 < a → P x
  by_first zero x h = absurd (omega (arith, h))
  by_first (suc a) x h = by_second a (by_first a) (suc (size x).1) x (omega (arith, h)) (omega arith)

  pub by_pairs : (x : A) → P x
  by_pairs x = by_first (suc (size x).0) x (omega arith)
