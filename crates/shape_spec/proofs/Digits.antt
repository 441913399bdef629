-- The numbers of assignments.
use Rattle.std.proofs.Common.{◌≡◌, ◌∙◌, ap, sym, ℕ, zero, suc, ◌+◌, ◌-◌, ◌*◌, ◌/◌, ◌%◌, ◌^◌, ◌<◌, ◌≤◌, Bool, true, false, cond, eqb, List, arith, inl, inr}
use Rattle.std.proofs.lemmas.Bool.{cases_lt}
use Rattle.std.proofs.lemmas.Nat.Bits.{bit_at_cat_low, bit_at_cat_high, bit_at_above, bit_at-lt, same_from_bits_below}
use Rattle.std.proofs.Math.Nat.{pow-suc, div-div-eq-div-mul}
use Rattle.shape_spec.specs.ShapeSeen.{ShapeSeen}
use Rattle.shape_spec.specs.Indices.{width_of}
use Rattle.shape_spec.specs.InputMeant.{number_of, assignment_numbered, input_meant}
use Rattle.shape_spec.proofs.Members.{same_input}

digit_at_most : (b : Bool) (n : ℕ) → cond b n 0 ≤ n
digit_at_most true n = omega arith
digit_at_most false n = omega arith

pub number_below : (w : ℕ) (a : ℕ → Bool) → number_of w a < 2 ^ w
number_below zero a = omega arith
number_below (suc k) a = let h = number_below k a in let p = pow-suc 2 k in let d = digit_at_most (a k) (2 ^ k) in omega (arith, h, p, d)

-- one more binary digit, at place k
digit_below : (k n : ℕ) (b : Bool) (j : ℕ) → j < k → assignment_numbered (n + cond b (2 ^ k) 0) j ≡ assignment_numbered n j
digit_below k n true j l =
    let e : n + 2 ^ k ≡ 1 * 2 ^ k + n = omega arith in
    ap (λ m. assignment_numbered m j) e ∙ ap (λ m. eqb m 1) (bit_at_cat_low 1 k n j l)
digit_below k n false j l = let e : n + 0 ≡ n = omega arith in ap (λ m. assignment_numbered m j) e

digit_at : (k n : ℕ) (b : Bool) → n < 2 ^ k → assignment_numbered (n + cond b (2 ^ k) 0) k ≡ b
digit_at k n true h =
    let e : n + 2 ^ k ≡ 1 * 2 ^ k + n = omega arith in
    let z : k - k ≡ 0 = omega arith in
    ap (λ m. assignment_numbered m k) e ∙ (ap (λ m. eqb m 1) (bit_at_cat_high 1 k n k h (omega arith)) ∙ ap (λ m. assignment_numbered 1 m) z)
digit_at k n false h =
    let e : n + 0 ≡ n = omega arith in
    ap (λ m. assignment_numbered m k) e ∙ ap (λ m. eqb m 1) (bit_at_above n k k h (omega arith))

pub number_bits : (w : ℕ) (a : ℕ → Bool) (j : ℕ) → j < w → assignment_numbered (number_of w a) j ≡ a j
number_bits zero a j h = absurd (omega (arith, h))
number_bits (suc k) a j h = elim (cases_lt j k) [
  | inl l ↦ digit_below k (number_of k a) (a k) j l ∙ number_bits k a j l
  | inr l ↦
      let e : j ≡ k = omega (arith, h, l) in
      ap (assignment_numbered (number_of (suc k) a)) e ∙ (digit_at k (number_of k a) (a k) (number_below k a) ∙ ap a (sym e))
]

bit_number : (a b : ℕ) → a < 2 → b < 2 → eqb a 1 ≡ eqb b 1 → a ≡ b
bit_number a b h k e = grind arith

pub number_back : (w n : ℕ) → n < 2 ^ w → number_of w (assignment_numbered n) ≡ n
number_back w n h =
    let m = number_of w (assignment_numbered n) in
    same_from_bits_below w m n (number_below w (assignment_numbered n)) h (λ i l. bit_number (m / 2 ^ i % 2) (n / 2 ^ i % 2) (bit_at-lt m i) (bit_at-lt n i) (number_bits w (assignment_numbered n) i l))

pub input_by_number : (b : List (ℕ × ShapeSeen)) (a : ℕ → Bool) → input_meant b (assignment_numbered (number_of (width_of b) a)) ≡ input_meant b a
input_by_number b a = same_input b (assignment_numbered (number_of (width_of b) a)) a (number_bits (width_of b) a)

pub halved : (n k : ℕ) → n / 2 ^ k / 2 ≡ n / 2 ^ (k + 1)
halved n k =
    let s : suc k ≡ k + 1 = omega arith in
    let d : 2 ^ k * 2 ≡ 2 ^ suc k = omega (arith, pow-suc 2 k) in
    let e : 2 ^ k * 2 ≡ 2 ^ (k + 1) = d ∙ ap (λ m. 2 ^ m) s in div-div-eq-div-mul n (2 ^ k) 2 ∙ ap (λ m. n / m) e
