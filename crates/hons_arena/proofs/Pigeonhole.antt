-- Different values below a bound are no more than the bound.
use Rattle.std.proofs.Common.{◌≢◌, ℕ, zero, suc, ◌-◌, ◌<◌, ◌≤◌, cond, ltb, arith}
use Rattle.std.proofs.lemmas.Bool.Decides.{nat_tests}

-- the numbers other than v, closed up
abbrev squeezed : ℕ → ℕ → ℕ
squeezed v x = cond (ltb x v) x (x - 1)

squeezed-below : (v x b : ℕ) → x ≢ v → x < b → v < b → squeezed v x < b - 1
squeezed-below v x b n h k = grind (arith, nat_tests)

squeezed-different : (v x y : ℕ) → x ≢ v → y ≢ v → x ≢ y → squeezed v x ≢ squeezed v y
squeezed-different v x y n m d = grind (arith, nat_tests)

pub pigeonhole : (a b : ℕ) (f : (i : ℕ) → i < a → ℕ) → ((i : ℕ) (p : i < a) → f i p < b) → ((i j : ℕ) (p : i < a) (q : j < a) → i < j → f i p ≢ f j q) → a ≤ b
pigeonhole zero b f below different = omega arith
pigeonhole (suc a) b f below different =
    let last : a < suc a = omega arith in
    let up : (i : ℕ) → i < a → i < suc a = λ i p. omega arith in
    let apart : (i : ℕ) (p : i < a) → f i (up i p) ≢ f a last = λ i p. different i a (up i p) last p in
    let rest : a ≤ b - 1 =
    pigeonhole a (b - 1) (λ i p. squeezed (f a last) (f i (up i p)))
    (λ i p. squeezed-below (f a last) (f i (up i p)) b (apart i p) (below i (up i p)) (below a last))
    (λ i j p q l. squeezed-different (f a last) (f i (up i p)) (f j (up j q)) (apart i p) (apart j q) (different i j (up i p) (up j q) l)) in
    omega (arith, below a last)
