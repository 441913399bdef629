-- The number that the lowest bits are, and places that are integers.
use Rattle.std.proofs.Common.{◌≡◌, ◌≢◌, ℕ, zero, suc, ◌+◌, ◌-◌, ◌*◌, ◌/◌, ◌%◌, ◌<◌, ◌≤◌, ◌^◌, min, Bool, true, false, not, cond, List, [], ◌∷◌, length, ℤ, pos, negsuc, ◌+ℤ◌, ◌*ℤ◌, ◌<ℤ◌, ◌≤ℤ◌, int_lt, inl, inr, refl, sym, ◌∙◌, ap, arith, add-one, mod-eq_of_lt}
use Rattle.std.proofs.lemmas.Int.{ints}
use Rattle.std.proofs.lemmas.Bool.{false≢true, cases_lt}
use Rattle.std.proofs.Math.Nat.{pow-suc, pow-le-pow_right}
use Rattle.std.specs.Ordering.{int_eq}
use Rattle.gl_logic.specs.Object.{Int}
use Rattle.gl_logic.specs.PrimValue.{natural_in}
use Rattle.gl_logic.specs.Bitwise as logic
use Rattle.gl_logic.specs.Quotients.{floor_by}
use Rattle.gl_logic.specs.TwosComplement.{digit, integer_of, bit_of}
use Rattle.gl_logic.proofs.TwosComplement.{bit_integer}
use Rattle.sym_bits.specs.Columns.{sign_value, shifted, low_number}
use Rattle.sym_bits.proofs.Columns.{shifted_none, shifted_more, past}
use Rattle.sym_bits.proofs.Ring.{sum_times}
use Rattle.sym_bits.proofs.Comparing.{eq_holds, eq_shows}
use Rattle.sym_bits.proofs.Floors.{shifted_floor, shifted_far, no_rest, none_over, not_below, same_pos, power_pos}

twice : (n : ℕ) → n * 2 / 2 ≡ n
twice n = omega arith

pub half_power : (n s : ℕ) → (n ≡ 0 → ⊥) → s ≡ 2 ^ n → s / 2 ≡ 2 ^ (n - 1)
half_power zero s h e = absurd (h refl)
half_power (suc n) s h e = let p = pow-suc 2 n in let q : suc n - 1 ≡ n = omega arith in ap (λ k. k / 2) (e ∙ p) ∙ (twice (2 ^ n) ∙ ap (λ k. 2 ^ k) (sym q))

pub power_most : (n : ℕ) → n ≤ 9 → 2 ^ n ≤ 512
power_most n h = pow-le-pow_right {n = 2} (omega arith) h

pub power_fits : (n : ℕ) → n ≤ 9 → 0 + 1 * 2 ^ n % 4294967296 ≤ 512
power_fits n h = let p = power_most n h in let q : 1 * 2 ^ n % 4294967296 ≡ 1 * 2 ^ n = mod-eq_of_lt {n = 1 * 2 ^ n} {m = 4294967296} (omega (arith, p)) in omega (arith, p, q)

by_bit : (ys : List Bool) (base p w : ℕ) (b : Bool) → cond b (bit_of ys (base + p + w)) (bit_of ys (base + w)) ≡ bit_of ys (base + (w + cond b p 0))
by_bit ys base p w true = ap (bit_of ys) (omega arith)
by_bit ys base p w false = ap (bit_of ys) (omega arith)

pub pick_step : (xs ys : List Bool) (m n base s : ℕ) (b h l : Bool) → n ≡ suc m → s ≡ 2 ^ m → b ≡ bit_of xs m → h ≡ bit_of ys (base + s + low_number m xs) → l ≡ bit_of ys (base + low_number m xs)
    → cond b h l ≡ bit_of ys (base + low_number n xs)
pick_step xs ys m n base s b h l en es eb eh el =
    (λ i. cond (eb i) (eh i) (el i))
    ∙ (by_bit ys base s (low_number m xs) (bit_of xs m)
    ∙ ((λ i. bit_of ys (base + (low_number m xs + cond (bit_of xs m) (es i) 0))) ∙ ap (λ k. bit_of ys (base + low_number k xs)) (sym en)))

-- an integer is its lowest bits and the rest
digit_times : (b : Bool) (p w : ℕ) → (digit b *ℤ pos p) +ℤ pos w ≡ pos (w + cond b p 0)
digit_times true p w = omega (arith, ints)
digit_times false p w = omega (arith, ints)

add_around : (i j k : ℤ) → (i +ℤ (j +ℤ j)) +ℤ k ≡ (j +ℤ j) +ℤ (i +ℤ k)
add_around i j k = omega (arith, ints)

twice_times : (s : ℤ) (p : ℕ) → (s *ℤ pos p) +ℤ (s *ℤ pos p) ≡ s *ℤ pos (p * 2)
twice_times s p = omega (arith, ints)

join_digit : (b : Bool) (s : ℤ) (p w : ℕ) → ((digit b +ℤ (s +ℤ s)) *ℤ pos p) +ℤ pos w ≡ (s *ℤ pos (p * 2)) +ℤ pos (w + cond b p 0)
join_digit b s p w =
    ap (λ y. y +ℤ pos w) (sum_times (digit b) (s +ℤ s) (pos p) ∙ ap (λ y. (digit b *ℤ pos p) +ℤ y) (sum_times s s (pos p)))
    ∙ (add_around (digit b *ℤ pos p) (s *ℤ pos p) (pos w)
    ∙ (λ i. twice_times s p i +ℤ digit_times b p w i))

times_one : (i : ℤ) → i ≡ (i *ℤ pos 1) +ℤ pos 0
times_one i = omega (arith, ints)

pub split : (bs : List Bool) (n : ℕ) → integer_of bs ≡ (shifted bs n *ℤ pos (2 ^ n)) +ℤ pos (low_number n bs)
split bs zero = sym (shifted_none bs) ∙ times_one (shifted bs 0)
split bs (suc n) =
    split bs n
    ∙ ((λ i. (shifted_more bs n i *ℤ pos (2 ^ n)) +ℤ pos (low_number n bs))
    ∙ (join_digit (bit_of bs n) (shifted bs (suc n)) (2 ^ n) (low_number n bs)
    ∙ ap (λ p. (shifted bs (suc n) *ℤ pos p) +ℤ pos (low_number (suc n) bs)) (sym (pow-suc 2 n))))

one_more : (b : Bool) (w p : ℕ) → w < p → w + cond b p 0 < p * 2
one_more true w p h = omega (arith, h)
one_more false w p h = omega (arith, h)

pub low_below : (bs : List Bool) (n : ℕ) → low_number n bs < 2 ^ n
low_below bs zero = omega arith
low_below bs (suc n) = let p = pow-suc 2 n in let h = one_more (bit_of bs n) (low_number n bs) (2 ^ n) (low_below bs n) in omega (arith, p, h)

-- ---- a place that is an integer
nothing_above : (z : ℤ) (w p : ℕ) → z ≡ pos 0 → (z *ℤ pos p) +ℤ pos w ≡ pos w
nothing_above z w p e = ap (λ y. (y *ℤ pos p) +ℤ pos w) e ∙ omega (arith, ints)

nine : (level last : ℕ) → level ≡ min last 9 → 9 ≤ level → level ≡ 9
nine level last h m = omega (arith, h, m)

module _ (xs : List Bool) (n level last : ℕ) (whole : integer_of xs ≡ pos n) where
  -- no bit above the level is set
  near : shifted xs level ≡ pos 0 → low_number level xs ≡ n
  near e = same_pos (low_number level xs) n (sym (nothing_above (shifted xs level) (low_number level xs) (2 ^ level) e) ∙ (sym (split xs level) ∙ whole))

  no_rest_above : level ≡ min last 9 → length xs ≤ last + 1 → n < 512 → shifted xs level ≡ pos 0
  no_rest_above h l k =
      elim (cases_lt level 9) [
        | inl m ↦ shifted_far xs level (omega (arith, h, l, m)) ∙ ap (λ i. sign_value (int_lt i (pos 0))) whole ∙ ap sign_value (not_below n)
        | inr m ↦ shifted_floor xs level ∙ (λ i. floor_by (whole i) (2 ^ (nine level last h m i))) ∙ ap pos (none_over n 512 k)
      ]

  far : (ys : List Bool) (t : Bool) → int_eq (shifted xs level) (pos 0) ≡ t → level ≡ min last 9 → length xs ≤ last + 1 → 0 < length ys → length ys ≤ 512
      → cond (not t) (bit_of ys (length ys - 1)) (bit_of ys (0 + low_number level xs)) ≡ bit_of ys n
  far ys true e h l m k = ap (bit_of ys) (let q = near (eq_holds (shifted xs level) (pos 0) e) in omega (arith, q))
  far ys false e h l m k =
      elim (cases_lt n 512) [
        | inl b ↦ absurd (false≢true (sym e ∙ eq_shows (shifted xs level) (pos 0) (no_rest_above h l b)))
        | inr b ↦ past ys (length ys - 1) n m (omega (arith, m)) (omega (arith, k, b))
      ]

-- the bit at an integer place, where a negative one is the place 0
pub at_place : (xs ys : List Bool) (z : ℤ) (level last : ℕ) → integer_of xs ≡ z → level ≡ min last 9 → length xs ≤ last + 1 → 0 < length ys → length ys ≤ 512
    → cond (int_lt z (pos 0)) (bit_of ys 0) (cond (not (int_eq (shifted xs level) (pos 0))) (bit_of ys (length ys - 1)) (bit_of ys (0 + low_number level xs)))
    ≡ logic.bit_at (natural_in (Int z)) (integer_of ys)
at_place xs ys (pos n) level last w h l m k =
    ap (λ b. cond b (bit_of ys 0) (cond (not (int_eq (shifted xs level) (pos 0))) (bit_of ys (length ys - 1)) (bit_of ys (0 + low_number level xs)))) (not_below n)
    ∙ (far xs n level last w ys (int_eq (shifted xs level) (pos 0)) refl h l m k ∙ sym (bit_integer ys n))
at_place xs ys (negsuc n) level last w h l m k = sym (bit_integer ys 0)
