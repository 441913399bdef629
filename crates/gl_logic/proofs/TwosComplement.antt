-- An integer and its bits.
use Rattle.std.proofs.Common.{◌≡◌, ℕ, zero, suc, ◌+◌, ◌-◌, ◌%◌, ◌^◌, ◌<◌, Bool, true, false, not, eqb, List, [], ◌∷◌, length, ℤ, pos, negsuc, ◌+ℤ◌, neg_ℤ, ◌≤ℤ◌, ◌<ℤ◌, refl, sym, ◌∙◌, ap, arith, add-zero, add-suc}
use Rattle.std.proofs.lemmas.Int.{ints}
use Rattle.std.proofs.lemmas.Nat.Bits.{bit_at_lowest, bit_at-suc, bit_at-zero, bit_at-lt, bit_at_above, same_from_bits}
use Rattle.std.proofs.Math.Nat.{pow-suc}
use Rattle.gl_logic.specs.Quotients.{floor_by}
use Rattle.gl_logic.specs.Bitwise.{bit_at}
use Rattle.gl_logic.specs.TwosComplement.{digit, integer_of, bits_of, bit_of}
use Rattle.gl_logic.specs.Bytes.{is_signed_byte}

-- an integer is its lowest bit and twice the rest
lowest : (n : ℕ) → digit (eqb (n % 2) 1) ≡ pos (n % 2)
lowest n = grind arith

lowest_not : (n : ℕ) → digit (not (eqb (n % 2) 1)) ≡ pos (1 - n % 2)
lowest_not n = grind arith

pub halves : (i : ℤ) → digit (bit_at 0 i) +ℤ (floor_by i 2 +ℤ floor_by i 2) ≡ i
halves (pos n) = let e = ap (λ m. digit (eqb m 1)) (bit_at_lowest n) ∙ lowest n in omega (arith, ints, e)
halves (negsuc n) = let e = ap (λ m. digit (not (eqb m 1))) (bit_at_lowest n) ∙ lowest_not n in omega (arith, ints, e)

-- a bit of an integer without its lowest bit
pub bit_half : (k : ℕ) (i : ℤ) → bit_at (suc k) i ≡ bit_at k (floor_by i 2)
bit_half k (pos n) = ap (λ m. eqb m 1) (bit_at-suc n k)
bit_half k (negsuc n) = ap (λ m. not (eqb m 1)) (bit_at-suc n k)

-- -2 ^ w <= i < 2 ^ w
pub record Within (w : ℕ) (i : ℤ) : Type 0 where
  pub least : neg_ℤ (pos (2 ^ w)) ≤ℤ i
  pub most : i <ℤ pos (2 ^ w)

pub within : (w : ℕ) (i : ℤ) → is_signed_byte (pos (suc w)) i ≡ true → Within w i
within w i h = record { least = grind (arith, ints); most = grind (arith, ints) }

pub signed : (w : ℕ) (i : ℤ) → Within w i → is_signed_byte (pos (suc w)) i ≡ true
signed w i h = grind (arith, ints, h.least, h.most)

within_half : (w : ℕ) (i : ℤ) → Within (suc w) i → Within w (floor_by i 2)
within_half w (pos n) h = let p = pow-suc 2 w in record { least = omega (arith, ints, p, h.least); most = omega (arith, ints, p, h.most) }
within_half w (negsuc n) h = let p = pow-suc 2 w in record { least = omega (arith, ints, p, h.least); most = omega (arith, ints, p, h.most) }

-- an integer of so many bits is its bits
pub from_bits_of : (w : ℕ) (i : ℤ) → Within w i → integer_of (bits_of (suc w) i) ≡ i
from_bits_of zero (pos zero) h = refl
from_bits_of zero (pos (suc n)) h = absurd (omega (arith, ints, h.most))
from_bits_of zero (negsuc zero) h = refl
from_bits_of zero (negsuc (suc n)) h = absurd (omega (arith, ints, h.least))
from_bits_of (suc w) i h =
    ap (λ z. digit (bit_at 0 i) +ℤ (z +ℤ z)) (from_bits_of w (floor_by i 2) (within_half w i h)) ∙ halves i

-- a lowest bit and a rest give one integer
unique : (b c : Bool) (x y : ℤ) → digit b +ℤ (x +ℤ x) ≡ digit c +ℤ (y +ℤ y) → (b ≡ c) × (x ≡ y)
unique true true x y h = (refl, omega (arith, ints, h))
unique true false x y h = absurd (omega (arith, ints, h))
unique false true x y h = absurd (omega (arith, ints, h))
unique false false x y h = (refl, omega (arith, ints, h))

doubled : (b : Bool) (x : ℤ) → (bit_at 0 (digit b +ℤ (x +ℤ x)) ≡ b) × (floor_by (digit b +ℤ (x +ℤ x)) 2 ≡ x)
doubled b x = let z = digit b +ℤ (x +ℤ x) in unique (bit_at 0 z) b (floor_by z 2) x (halves z)

pub list_within : (b : Bool) (bs : List Bool) → Within (length bs) (integer_of (b ∷ bs))
list_within true [] = record { least = omega (arith, ints); most = omega (arith, ints) }
list_within false [] = record { least = omega (arith, ints); most = omega (arith, ints) }
list_within true (c ∷ bs) = let p = pow-suc 2 (length bs) in let h = list_within c bs in record { least = omega (arith, ints, p, h.least, h.most); most = omega (arith, ints, p, h.least, h.most) }
list_within false (c ∷ bs) = let p = pow-suc 2 (length bs) in let h = list_within c bs in record { least = omega (arith, ints, p, h.least, h.most); most = omega (arith, ints, p, h.least, h.most) }

pub bits_back : (b : Bool) (bs : List Bool) → bits_of (suc (length bs)) (integer_of (b ∷ bs)) ≡ b ∷ bs
bits_back true [] = refl
bits_back false [] = refl
bits_back b (c ∷ bs) = let d = doubled b (integer_of (c ∷ bs)) in (λ x. d.0 x ∷ bits_of (suc (length bs)) (d.1 x)) ∙ ap (λ cs. b ∷ cs) (bits_back c bs)

-- all bits of 0 and of -1
pub bit_zero : (k : ℕ) → bit_at k (pos 0) ≡ false
bit_zero k = ap (λ n. eqb n 1) (bit_at-zero k)

pub bit_minus_one : (k : ℕ) → bit_at k (negsuc 0) ≡ true
bit_minus_one k = ap (λ n. not (eqb n 1)) (bit_at-zero k)

pub bit_integer : (bs : List Bool) (k : ℕ) → bit_at k (integer_of bs) ≡ bit_of bs k
bit_integer [] k = bit_zero k
bit_integer (true ∷ []) k = bit_minus_one k
bit_integer (false ∷ []) k = bit_zero k
bit_integer (b ∷ c ∷ bs) zero = (doubled b (integer_of (c ∷ bs))).0
bit_integer (b ∷ c ∷ bs) (suc k) =
    bit_half k (integer_of (b ∷ c ∷ bs)) ∙ (ap (bit_at k) (doubled b (integer_of (c ∷ bs))).1 ∙ bit_integer (c ∷ bs) k)

-- the bits of the list of bits
pub bit_of_bits : (w : ℕ) (i : ℤ) (k : ℕ) → k < suc w → bit_of (bits_of (suc w) i) k ≡ bit_at k i
bit_of_bits zero i zero h = refl
bit_of_bits zero i (suc k) h = absurd (omega (arith, h))
bit_of_bits (suc w) i zero h = refl
bit_of_bits (suc w) i (suc k) h = bit_of_bits w (floor_by i 2) k (omega (arith, h)) ∙ sym (bit_half k i)

below_power : (n : ℕ) → n < 2 ^ n
below_power zero = omega arith
below_power (suc n) = let p = pow-suc 2 n in let h = below_power n in omega (arith, p, h)

below_power_more : (n m : ℕ) → n < 2 ^ (n + m)
below_power_more n zero = let h = below_power n in rw add-zero h
below_power_more n (suc m) = let p = pow-suc 2 (n + m) in let h = below_power_more n m in rw add-suc (omega (arith, p, h))

-- far enough to the left stands the sign alone
high_pos : (n m : ℕ) → bit_at (n + m) (pos n) ≡ false
high_pos n m = ap (λ x. eqb x 1) (bit_at_above n (n + m) (n + m) (below_power_more n m) (omega arith))

high_neg : (n m : ℕ) → bit_at (m + n) (negsuc n) ≡ true
high_neg n m = ap (λ x. not (eqb x 1)) (bit_at_above n (n + m) (m + n) (below_power_more n m) (omega arith))

bit_number : (a b : ℕ) → a < 2 → b < 2 → eqb a 1 ≡ eqb b 1 → a ≡ b
bit_number a b h k e = grind arith

not_same : (b c : Bool) → not b ≡ not c → b ≡ c
not_same true true e = refl
not_same true false e = sym e
not_same false true e = sym e
not_same false false e = refl

-- integers with the same bits are the same
pub same_bits : (i j : ℤ) → ((k : ℕ) → bit_at k i ≡ bit_at k j) → i ≡ j
same_bits (pos a) (pos b) h = ap pos (same_from_bits a b (λ k. bit_number _ _ (bit_at-lt a k) (bit_at-lt b k) (h k)))
same_bits (pos a) (negsuc b) h = let p = high_pos a b in let q = high_neg b a in let e = h (a + b) in absurd (cc)
same_bits (negsuc a) (pos b) h = let p = high_pos b a in let q = high_neg a b in let e = h (b + a) in absurd (cc)
same_bits (negsuc a) (negsuc b) h = ap negsuc (same_from_bits a b (λ k. bit_number _ _ (bit_at-lt a k) (bit_at-lt b k) (not_same _ _ (h k))))
