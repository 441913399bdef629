-- Integers within a width, and the integers of primitives.
use Rattle.std.proofs.Common.{◌≡◌, ℕ, zero, suc, ◌+◌, ◌<◌, ◌≤◌, ◌^◌, Bool, true, false, not, cond, ◌&&◌, List, [], ◌∷◌, length, map, take, ℤ, pos, negsuc, ◌+ℤ◌, ◌<ℤ◌, ◌≤ℤ◌, int_lt, int_le, refl, sym, ◌∙◌, ap, arith}
use Rattle.std.proofs.lemmas.Int.{ints}
use Rattle.std.proofs.lemmas.Bool.{false≢true}
use Rattle.std.specs.Ordering.{int_eq}
use Rattle.gl_logic.specs.Bytes.{is_unsigned_byte, is_signed_byte}
use Rattle.gl_logic.specs.Lengths.{integer_length}
use Rattle.gl_logic.specs.Object.{boolean_object}
use Rattle.gl_logic.specs.ObjectEq.{is_nil}
use Rattle.gl_logic.specs.TwosComplement.{integer_of, bit_of}
use Rattle.gl_logic.proofs.TwosComplement.{within, signed, Within}
use Rattle.gl_logic.proofs.Lengths.{short, shorter}
use Rattle.sym_bits.specs.Columns.{shifted}
use Rattle.sym_bits.proofs.Columns.{shifted_none}
use Rattle.sym_bits.proofs.Comparing.{both_ways, lt_holds, lt_shows, eq_shows}
use Rattle.sym_bits.proofs.Floors.{fits_is, not_below}
use Rattle.sym_bits.proofs.Halving.{sign_bit}

pub not_nil : (b : Bool) → not (is_nil (boolean_object b)) ≡ b
not_nil true = refl
not_nil false = refl

-- at most 128 bits are within 128 bits
pub within_128 : (bs : List Bool) → length bs ≤ 128 → is_signed_byte (pos 128) (integer_of bs) ≡ true
within_128 bs h = sym (fits_is bs 127 127 h) ∙ eq_shows (shifted bs 127) (shifted bs 127) refl

-- ---- bytes by lengths
below_zero : (n : ℕ) (w : ℕ) → int_lt (pos n) (negsuc w) ≡ false
below_zero n w = both_ways (int_lt (pos n) (negsuc w)) false (λ e. let h = lt_holds (pos n) (negsuc w) e in absurd (omega (arith, ints, h))) (λ e. absurd (false≢true e))

pub signed_by_length : (w i : ℤ) → int_lt (pos (integer_length i)) w ≡ is_signed_byte w i
signed_by_length (pos zero) i = not_below (integer_length i)
signed_by_length (pos (suc k)) i =
    both_ways (int_lt (pos (integer_length i)) (pos (suc k))) (is_signed_byte (pos (suc k)) i)
    (λ e. let h = lt_holds (pos (integer_length i)) (pos (suc k)) e in signed k i (shorter k i (omega (arith, ints, h))))
    (λ e. let h = short k i (within k i e) in lt_shows (pos (integer_length i)) (pos (suc k)) (omega (arith, ints, h)))
signed_by_length (negsuc w) i = below_zero (integer_length i) w

both_hold : (b c : Bool) → (b && c) ≡ true → (b ≡ true) × (c ≡ true)
both_hold true c e = (refl, e)
both_hold false c e = absurd (false≢true e)

both_show : (b c : Bool) → b ≡ true → c ≡ true → (b && c) ≡ true
both_show b c e h = (λ i. e i && h i)

not_holds : (b : Bool) → not b ≡ true → b ≡ true → ⊥
not_holds true e h = false≢true e
not_holds false e h = false≢true h

not_shows : (b : Bool) → (b ≡ true → ⊥) → not b ≡ true
not_shows true f = absurd (f refl)
not_shows false f = refl

le_holds : (i j : ℤ) → int_le i j ≡ true → i ≤ℤ j
le_holds i j h = grind (arith, ints, h)

le_shows : (i j : ℤ) → i ≤ℤ j → int_le i j ≡ true
le_shows i j h = grind (arith, ints, h)

not_under : (i : ℤ) → (int_lt i (pos 0) ≡ true → ⊥) → pos 0 ≤ℤ i
not_under (pos n) f = omega (arith, ints)
not_under (negsuc n) f = absurd (f refl)

pub unsigned_by_length : (w i : ℤ) → (not (int_lt w (pos (integer_length i))) && not (int_lt i (pos 0))) ≡ is_unsigned_byte w i
unsigned_by_length (negsuc w) i = refl
unsigned_by_length (pos n) i =
    both_ways (not (int_lt (pos n) (pos (integer_length i))) && not (int_lt i (pos 0))) (is_unsigned_byte (pos n) i)
    (λ e.
    let p = both_hold (not (int_lt (pos n) (pos (integer_length i)))) (not (int_lt i (pos 0))) e in
    let l : integer_length i ≤ n = at_most (integer_length i) n (not_holds (int_lt (pos n) (pos (integer_length i))) p.0) in
    let s : Within n i = shorter n i l in
    both_show (int_le (pos 0) i) (int_lt i (pos (2 ^ n))) (le_shows (pos 0) i (not_under i (not_holds (int_lt i (pos 0)) p.1))) (lt_shows i (pos (2 ^ n)) s.most))
    (λ e.
    let p = both_hold (int_le (pos 0) i) (int_lt i (pos (2 ^ n))) e in
    let z : pos 0 ≤ℤ i = le_holds (pos 0) i p.0 in
    let m : i <ℤ pos (2 ^ n) = lt_holds i (pos (2 ^ n)) p.1 in
    let s : integer_length i ≤ n = short n i (record { least = omega (arith, ints, z); most = m }) in
    both_show (not (int_lt (pos n) (pos (integer_length i)))) (not (int_lt i (pos 0)))
    (not_shows (int_lt (pos n) (pos (integer_length i))) (λ h. let q = lt_holds (pos n) (pos (integer_length i)) h in omega (arith, ints, q, s)))
    (not_shows (int_lt i (pos 0)) (λ h. let q = lt_holds i (pos 0) h in omega (arith, ints, q, z))))
  where
    at_most : (l n : ℕ) → (int_lt (pos n) (pos l) ≡ true → ⊥) → l ≤ n
    at_most l n f = grind (arith, ints, f)

-- the last bit tells the sign
pub last_bit : (bs : List Bool) (n : ℕ) → 0 < length bs → length bs ≤ n + 1 → bit_of bs n ≡ int_lt (integer_of bs) (pos 0)
last_bit bs n h l = sign_bit bs n h l ∙ ap (λ z. int_lt z (pos 0)) (shifted_none bs)

pub not_not : (b : Bool) → not b ≡ false → b ≡ true
not_not true e = refl
not_not false e = absurd (false≢true (sym e))
