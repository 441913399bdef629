-- The binary digits of a number, and the least width.
use Rattle.std.proofs.Common.{◌≡◌, ℕ, zero, suc, ◌+◌, ◌/◌, ◌^◌, ◌<◌, ◌≤◌, ◌≢◌, ℤ, pos, negsuc, refl, sym, ◌∙◌, ap, arith}
use Rattle.std.proofs.Math.Nat.{pow-suc}
use Rattle.std.proofs.lemmas.Int.{ints}
use Rattle.gl_logic.specs.Quotients.{floor_ℤ}
use Rattle.gl_logic.proofs.TwosComplement.{Within}
use Rattle.gl_logic.specs.Lengths.{halvings_within, binary_length, integer_length}

no_halvings : (f : ℕ) → halvings_within f zero ≡ 0
no_halvings zero = refl
no_halvings (suc f) = refl

-- any number of turns that suffices gives the same
pub same_halvings : (f g n : ℕ) → n ≤ f → n ≤ g → halvings_within f n ≡ halvings_within g n
same_halvings f g zero h k = no_halvings f ∙ sym (no_halvings g)
same_halvings zero g (suc n) h k = absurd (omega (arith, h))
same_halvings (suc f) zero (suc n) h k = absurd (omega (arith, k))
same_halvings (suc f) (suc g) (suc n) h k = ap suc (same_halvings f g (suc n / 2) (omega (arith, h)) (omega (arith, k)))

pub length_more : (n : ℕ) → binary_length (suc n) ≡ suc (binary_length (suc n / 2))
length_more n = ap suc (same_halvings n (suc n / 2) (suc n / 2) (omega arith) (omega arith))

pub length_within : (k n : ℕ) → n < 2 ^ k → binary_length n ≤ k
length_within k zero h = omega arith
length_within zero (suc n) h = absurd (omega (arith, h))
length_within (suc k) (suc n) h =
    let e = length_more n in
    let p = pow-suc 2 k in
    let r = length_within k (suc n / 2) (omega (arith, h, p)) in omega (arith, e, r)

pub within_length : (k n : ℕ) → binary_length n ≤ k → n < 2 ^ k
within_length zero zero h = omega arith
within_length (suc k) zero h = let p = pow-suc 2 k in let r = within_length k zero (omega arith) in omega (arith, p, r)
within_length zero (suc n) h = let e = length_more n in absurd (omega (arith, e, h))
within_length (suc k) (suc n) h =
    let e = length_more n in
    let p = pow-suc 2 k in
    let r = within_length k (suc n / 2) (omega (arith, e, h)) in omega (arith, p, r)

-- the least width: i lies within k bits and a sign where its length is at most k
pub short : (k : ℕ) (i : ℤ) → Within k i → integer_length i ≤ k
short k (pos n) h = length_within k n (omega (arith, ints, h.most))
short k (negsuc n) h = length_within k n (omega (arith, ints, h.least))

pub shorter : (k : ℕ) (i : ℤ) → integer_length i ≤ k → Within k i
shorter k (pos n) h = let b = within_length k n h in record { least = omega (arith, ints); most = omega (arith, ints, b) }
shorter k (negsuc n) h = let b = within_length k n h in record { least = omega (arith, ints, b); most = omega (arith, ints) }

pub length_by_half : (i : ℤ) → i ≢ pos 0 → i ≢ negsuc 0 → integer_length i ≡ 1 + integer_length (floor_ℤ i (pos 2))
length_by_half (pos zero) h k = absurd (h refl)
length_by_half (pos (suc n)) h k = omega (arith, length_more n)
length_by_half (negsuc zero) h k = absurd (k refl)
length_by_half (negsuc (suc n)) h k = omega (arith, length_more n)
