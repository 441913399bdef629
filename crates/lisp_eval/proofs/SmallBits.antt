-- Bounds of bitwise results at 63 bits, and masks.
use Rattle.std.proofs.Common.{arith, ◌≡◌, ◌∙◌, ap, sym, ℕ, ◌-◌, ◌*◌, ◌%◌, ◌<◌, ◌^◌, bit_and, bit_or, bit_xor}
use Rattle.std.proofs.Math.Pow.{pow-lt}
use Rattle.std.proofs.lemmas.Nat.{and_mask, or_lt, xor_lt}

pub or_of_63 : (a b : ℕ) → a < 2 ^ 63 → b < 2 ^ 63 → bit_or a b < 2 ^ 63
or_of_63 a b h k = or_lt 63 a b h k

pub xor_of_63 : (a b : ℕ) → a < 2 ^ 63 → b < 2 ^ 63 → bit_xor a b < 2 ^ 63
xor_of_63 a b h k = xor_lt 63 a b h k

shifted : (n : ℕ) → n < 18446744073709551616 → 1 * n % 18446744073709551616 ≡ n
shifted n h = omega (arith, h)

-- a mask for a power of two leaves what a division by it leaves
pub power_masks : (a b k : ℕ) → k < 64 → b ≡ 1 * 2 ^ k % 18446744073709551616 → bit_and a (b - 1) ≡ a % b
power_masks a b k h e =
    let is : b ≡ 2 ^ k = e ∙ shifted (2 ^ k) (pow-lt {i = k} {j = 64} h) in
    ap (λ n. bit_and a (n - 1)) is ∙ (and_mask a k ∙ ap (λ n. a % n) (sym is))
