-- A bit of a bitwise result is the operation on the bits.
use Rattle.std.proofs.Common.{◌≡◌, ℕ, ◌+◌, ◌-◌, ◌*◌, ◌/◌, ◌%◌, ◌^◌, ◌<◌, ◌≤◌, min, max, Bool, true, false, not, ◌&&◌, ◌||◌, eqb, ℤ, pos, negsuc, bit_and, bit_or, bit_xor, refl, sym, ◌∙◌, ap, arith}
use Rattle.std.proofs.lemmas.Nat.{and_le_l, and_comm, and_shr, and_mod, div-mul-add, mod-mul-add, div-add-mod', mod_below, pow_pos}
use Rattle.std.proofs.lemmas.Nat.Bits.{bit_at_and, bit_at_or, bit_at_xor, bit_at_lowest, bit_at-lt}
use Rattle.gl_logic.specs.Bitwise.{bit_at, not_ℤ, and_ℤ, or_ℤ, xor_ℤ, xor}

not_not : (b : Bool) → not (not b) ≡ b
not_not true = refl
not_not false = refl

and_swap : (x y : Bool) → (x && y) ≡ (y && x)
and_swap true true = refl
and_swap true false = refl
and_swap false true = refl
and_swap false false = refl

nor : (x y : Bool) → not (x || y) ≡ (not x && not y)
nor true y = refl
nor false y = refl

nand : (x y : Bool) → not (not x && not y) ≡ (x || y)
nand true y = refl
nand false y = not_not y

xor_right : (x y : Bool) → not (xor x y) ≡ xor x (not y)
xor_right true y = refl
xor_right false y = refl

xor_left : (x y : Bool) → not (xor x y) ≡ xor (not x) y
xor_left true y = not_not y
xor_left false y = refl

xor_both : (x y : Bool) → xor x y ≡ xor (not x) (not y)
xor_both true y = refl
xor_both false y = sym (not_not y)

-- bits as numbers
pub both_bits : (p q : ℕ) → p < 2 → q < 2 → eqb (min p q) 1 ≡ (eqb p 1 && eqb q 1)
both_bits p q h k = grind arith

pub either_bits : (p q : ℕ) → p < 2 → q < 2 → eqb (max p q) 1 ≡ (eqb p 1 || eqb q 1)
either_bits p q h k = grind arith

pub other_bits : (p q : ℕ) → p < 2 → q < 2 → eqb ((p + q) % 2) 1 ≡ xor (eqb p 1) (eqb q 1)
other_bits p q h k = grind arith

pub without_bits : (p q : ℕ) → p < 2 → q < 2 → eqb (p - min p q) 1 ≡ (eqb p 1 && not (eqb q 1))
without_bits p q h k = grind arith

-- a difference whose low parts don't borrow, in its two parts
pub cut : (m x y d r s : ℕ) → r < m → s ≤ r → (((y + d) * m + r) - (y * m + s)) ≡ d * m + (r - s)
cut m x y d r s h k = omega arith

pub cut_div : (m x y d r s : ℕ) → r < m → s ≤ r → (((y + d) * m + r) - (y * m + s)) / m ≡ d
cut_div m x y d r s h k = ap (λ n. n / m) (cut m x y d r s h k) ∙ div-mul-add d m (r - s) (omega (arith, h, k))

-- the same of any two numbers whose low and high parts don't borrow
pub minus_div : (m x y : ℕ) → 0 < m → y % m ≤ x % m → y / m ≤ x / m → (x - y) / m ≡ x / m - y / m
minus_div m x y z h k =
    let ex = div-add-mod' x m in
    let ey = div-add-mod' y m in
    let c = cut_div m x (y / m) (x / m - y / m) (x % m) (y % m) (mod_below x m z) h in
    let d : (y / m + (x / m - y / m)) ≡ x / m = omega (arith, k) in
    let t : ((y / m + (x / m - y / m)) * m + x % m) ≡ x = ap (λ n. n * m + x % m) d ∙ ex in
    ap (λ n. n / m) (λ i. sym t i - sym ey i) ∙ c

pub minus_mod : (m x y : ℕ) → 0 < m → y % m ≤ x % m → y / m ≤ x / m → (x - y) % m ≡ x % m - y % m
minus_mod m x y z h k =
    let ex = div-add-mod' x m in
    let ey = div-add-mod' y m in
    let c = cut m x (y / m) (x / m - y / m) (x % m) (y % m) (mod_below x m z) h in
    let d : (y / m + (x / m - y / m)) ≡ x / m = omega (arith, k) in
    let t : ((y / m + (x / m - y / m)) * m + x % m) ≡ x = ap (λ n. n * m + x % m) d ∙ ex in
    ap (λ n. n % m) ((λ i. sym t i - sym ey i) ∙ c) ∙ mod-mul-add (x / m - y / m) m (x % m - y % m) (omega (arith, mod_below x m z))

parity_and : (x y : ℕ) → bit_and x y % 2 ≡ min (x % 2) (y % 2)
parity_and x y = sym (bit_at_lowest (bit_and x y)) ∙ (bit_at_and x y 0 ∙ (λ i. min (bit_at_lowest x i) (bit_at_lowest y i)))

-- a bit of what is left of a number without the bits of another
pub bit_without : (a b k : ℕ) → (a - bit_and a b) / 2 ^ k % 2 ≡ a / 2 ^ k % 2 - min (a / 2 ^ k % 2) (b / 2 ^ k % 2)
bit_without a b k =
    let low : bit_and a b % 2 ^ k ≤ a % 2 ^ k = omega (arith, and_mod a b k, and_le_l (a % 2 ^ k) (b % 2 ^ k)) in
    let high : bit_and a b / 2 ^ k ≤ a / 2 ^ k = omega (arith, and_shr a b k, and_le_l (a / 2 ^ k) (b / 2 ^ k)) in
    let e = minus_div (2 ^ k) a (bit_and a b) (pow_pos k) low high in
    let x = a / 2 ^ k in
    let y = b / 2 ^ k in
    let lowest : bit_and x y % 2 ≤ x % 2 = omega (arith, and_mod x y 1, and_le_l (x % 2) (y % 2)) in
    let rest : bit_and x y / 2 ≤ x / 2 = omega (arith, and_shr x y 1, and_le_l (x / 2) (y / 2)) in
    ap (λ n. n % 2) (e ∙ ap (λ n. x - n) (and_shr a b k)) ∙ (minus_mod 2 x (bit_and x y) (omega arith) lowest rest ∙ ap (λ n. x % 2 - n) (parity_and x y))

module _ (k : ℕ) where
  bit_pos_and : (a b : ℕ) → bit_at k (pos (bit_and a b)) ≡ (bit_at k (pos a) && bit_at k (pos b))
  bit_pos_and a b = ap (λ n. eqb n 1) (bit_at_and a b k) ∙ both_bits (a / 2 ^ k % 2) (b / 2 ^ k % 2) (bit_at-lt a k) (bit_at-lt b k)

  bit_pos_or : (a b : ℕ) → bit_at k (pos (bit_or a b)) ≡ (bit_at k (pos a) || bit_at k (pos b))
  bit_pos_or a b = ap (λ n. eqb n 1) (bit_at_or a b k) ∙ either_bits (a / 2 ^ k % 2) (b / 2 ^ k % 2) (bit_at-lt a k) (bit_at-lt b k)

  bit_pos_xor : (a b : ℕ) → bit_at k (pos (bit_xor a b)) ≡ xor (bit_at k (pos a)) (bit_at k (pos b))
  bit_pos_xor a b = ap (λ n. eqb n 1) (bit_at_xor a b k) ∙ other_bits (a / 2 ^ k % 2) (b / 2 ^ k % 2) (bit_at-lt a k) (bit_at-lt b k)

  bit_pos_without : (a b : ℕ) → bit_at k (pos (a - bit_and a b)) ≡ (bit_at k (pos a) && not (bit_at k (pos b)))
  bit_pos_without a b = ap (λ n. eqb n 1) (bit_without a b k) ∙ without_bits (a / 2 ^ k % 2) (b / 2 ^ k % 2) (bit_at-lt a k) (bit_at-lt b k)

  pub bit_of_not : (i : ℤ) → bit_at k (not_ℤ i) ≡ not (bit_at k i)
  bit_of_not (pos n) = refl
  bit_of_not (negsuc n) = sym (not_not (bit_at k (pos n)))

  pub bit_of_and : (i j : ℤ) → bit_at k (and_ℤ i j) ≡ (bit_at k i && bit_at k j)
  bit_of_and (pos a) (pos b) = bit_pos_and a b
  bit_of_and (pos a) (negsuc b) = bit_pos_without a b
  bit_of_and (negsuc a) (pos b) = ap (λ n. bit_at k (pos (b - n))) (and_comm a b) ∙ (bit_pos_without b a ∙ and_swap (bit_at k (pos b)) (bit_at k (negsuc a)))
  bit_of_and (negsuc a) (negsuc b) = ap not (bit_pos_or a b) ∙ nor (bit_at k (pos a)) (bit_at k (pos b))

  pub bit_of_or : (i j : ℤ) → bit_at k (or_ℤ i j) ≡ (bit_at k i || bit_at k j)
  bit_of_or i j =
      bit_of_not (and_ℤ (not_ℤ i) (not_ℤ j))
      ∙ (ap not (bit_of_and (not_ℤ i) (not_ℤ j)) ∙ ((λ x. not (bit_of_not i x && bit_of_not j x)) ∙ nand (bit_at k i) (bit_at k j)))

  pub bit_of_xor : (i j : ℤ) → bit_at k (xor_ℤ i j) ≡ xor (bit_at k i) (bit_at k j)
  bit_of_xor (pos a) (pos b) = bit_pos_xor a b
  bit_of_xor (pos a) (negsuc b) = ap not (bit_pos_xor a b) ∙ xor_right (bit_at k (pos a)) (bit_at k (pos b))
  bit_of_xor (negsuc a) (pos b) = ap not (bit_pos_xor a b) ∙ xor_left (bit_at k (pos a)) (bit_at k (pos b))
  bit_of_xor (negsuc a) (negsuc b) = bit_pos_xor a b ∙ xor_both (bit_at k (pos a)) (bit_at k (pos b))
