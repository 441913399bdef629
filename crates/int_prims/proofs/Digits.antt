-- The digits of a number, counted from its leading zeros.
use Rattle.std.proofs.Common.{◌≡◌, ℕ, zero, suc, ◌+◌, ◌-◌, ◌*◌, ◌^◌, ◌<◌, ◌≤◌, arith}
use Rattle.std.proofs.lemmas.Nat.{leading_length}
use Rattle.std.proofs.Math.Nat.{pow-suc}
use Rattle.std.specs.Int.{w128, leading_zeros}
use Rattle.gl_logic.specs.Lengths.{binary_length}
use Rattle.gl_logic.proofs.Lengths.{length_within, within_length}

longer : (m n : ℕ) → binary_length n ≤ suc m → 2 ^ m ≤ n → binary_length n ≡ suc m
longer m n l q = let w : binary_length n ≤ m → n < 2 ^ m = within_length m n in grind (arith, l, q, w)

-- a width between the half of a number and the number is its number of digits
exact : (m n : ℕ) → n < 2 ^ m → 2 ^ m ≤ 2 * n + 1 → binary_length n ≡ m
exact zero n h k = let l = length_within zero n h in omega (arith, l)
exact (suc m) n h k =
    let l = length_within (suc m) n h in
    let p = pow-suc 2 m in
    let q : 2 ^ m ≤ n = omega (arith, p, k) in longer m n l q

pub leading_counts : (n : ℕ) → n < 2 ^ 128 → 128 - leading_zeros w128 n ≡ binary_length n
leading_counts n h =
    let s = leading_length 128 n h in
    let e = exact s.0 n s.2 s.3 in omega (arith, e, s.1)
