-- Numbers as they are written, read again.
use Rattle.std.proofs.Common.{◌≡◌, ◌∙◌, ap, sym, refl, ℕ, zero, suc, ℤ, pos, negsuc, ◌+◌, ◌%◌, ◌^◌, ◌<◌, ◌≤◌, true, false, ◌&&◌, cond, List, [], ◌∷◌, ◌++◌, length, get_or, Some, None, arith}
use Rattle.std.specs.Prelude.{◌==◌, nat_le, codes, bytes_eq, option_map, option_and_then}
use Rattle.std.specs.Fmt.{decimal, signed_decimal}
use Rattle.std.specs.Int.RustNames.{unsigned_abs}
use Rattle.std.specs.List.{All, list_all}
use Rattle.std.specs.Str.Parse.{digits_value}
use Rattle.std.proofs.lemmas.Bool.{and_parts, and_from, false_from_ne_true, leb-true, le-leb}
use Rattle.std.proofs.lemmas.Bool.Decides.{nat_tests}
use Rattle.std.proofs.lemmas.Fmt.{decimal_by_steps, decimal_digit, decimal_is_IsNumeral, decimal_nonempty, first_decimal}
use Rattle.std.proofs.lemmas.List.Elements.{All-nil, All-cons}
use Rattle.std.proofs.lemmas.List.Folds.{list_all-append}
use Rattle.std.proofs.lemmas.Slice.Eq.{bytes_eq-Decides}
use Rattle.lrat_tool.specs.Numbers.{at_most, integer_said, integer_within, is_digit, is_numeral, is_zero, natural_said, natural_within, negative}
use Rattle.lrat_tool.specs.Words.{is_blank, is_comment}
use Rattle.lrat_tool.proofs.WrittenLines.{IsWord}

abbrev AreDigits : List ℕ → Type 0
AreDigits ds = list_all is_digit ds ≡ true

-- ---- naturals
digit_made : (d : ℕ) → d < 10 → is_digit (48 + d) ≡ true
digit_made d small = and_from (nat_le 48 (48 + d)) (nat_le (48 + d) 57) (le-leb 48 (48 + d) (omega arith)) (le-leb (48 + d) 57 (omega arith))

digits_made : (n : ℕ) → n < 2 ^ 64 → AreDigits (decimal n)
digits_made n small = decimal_by_steps (λ (n : ℕ) (ds : List ℕ). AreDigits ds) one more n small
  where
    one : (n : ℕ) → n < 10 → AreDigits ((48 + n) ∷ [])
    one n h = and_from (is_digit (48 + n)) true (digit_made n h) refl

    more : (n : ℕ) (ds : List ℕ) → 10 ≤ n → AreDigits ds → AreDigits (ds ++ (48 + n % 10) ∷ [])
    more n ds h are = list_all-append is_digit ds ((48 + n % 10) ∷ []) ∙ and_from (list_all is_digit ds) (list_all is_digit ((48 + n % 10) ∷ [])) are (and_from (is_digit (48 + n % 10)) true (digit_made (n % 10) (omega arith)) refl)

numeral_of : (ds : List ℕ) → AreDigits ds → 0 < length ds → 48 < get_or ds 0 0 → is_numeral ds ≡ true
numeral_of [] are some first = absurd (omega (arith, some))
numeral_of (b ∷ []) are some first = (and_parts (is_digit b) true are).0
numeral_of (b ∷ c ∷ bs) are some first =
    and_from (nat_le 49 b) (is_digit b && list_all is_digit (c ∷ bs)) (le-leb 49 b (omega (arith, first))) are

pub numeral_made : (n : ℕ) → n < 2 ^ 64 → is_numeral (decimal n) ≡ true
numeral_made zero small = ap is_numeral (decimal_digit 0 (omega arith))
numeral_made (suc n) small = numeral_of (decimal (suc n)) (digits_made (suc n) small) (decimal_nonempty (suc n) small) (first_decimal (suc n) (omega arith) small)

pub natural_read : (n : ℕ) → n < 2 ^ 64 → natural_said (decimal n) ≡ Some n
natural_read n small =
    ap (λ b. cond b (Some (digits_value 10 (decimal n))) None) (numeral_made n small)
    ∙ ap Some ((decimal_is_IsNumeral n small).1)

pub natural_read_within : (most n : ℕ) → n < 2 ^ 64 → n ≤ most → natural_within most (decimal n) ≡ Some n
natural_read_within most n small le =
    ap (λ b. cond b (at_most most (digits_value 10 (decimal n))) None) (numeral_made n small)
    ∙ ap (at_most most) ((decimal_is_IsNumeral n small).1)
    ∙ ap (λ b. cond b (Some n) None) (le-leb n most le)

-- ---- integers
no_minus : (b : ℕ) → is_digit b ≡ true → (b == 45) ≡ false
no_minus b h = grind (arith, nat_tests)

within_digits : (most : ℕ) (ds : List ℕ) → AreDigits ds → 0 < length ds → integer_within most ds ≡ option_map pos (natural_within most ds)
within_digits most [] are some = absurd (omega (arith, some))
within_digits most (b ∷ bs) are some =
    ap (λ t. cond t (option_and_then negative (natural_within most bs)) (option_map pos (natural_within most (b ∷ bs)))) (no_minus b (and_parts (is_digit b) (list_all is_digit bs) are).0)

said_digits : (ds : List ℕ) → AreDigits ds → 0 < length ds → integer_said ds ≡ option_map pos (natural_said ds)
said_digits [] are some = absurd (omega (arith, some))
said_digits (b ∷ bs) are some =
    ap (λ t. cond t (option_and_then negative (natural_said bs)) (option_map pos (natural_said (b ∷ bs)))) (no_minus b (and_parts (is_digit b) (list_all is_digit bs) are).0)

pub integer_read : (most : ℕ) (z : ℤ) → unsigned_abs z < 2 ^ 64 → unsigned_abs z ≤ most → integer_within most (signed_decimal z) ≡ Some z
integer_read most (pos n) small le =
    within_digits most (decimal n) (digits_made n small) (decimal_nonempty n small) ∙ ap (option_map pos) (natural_read_within most n small le)
integer_read most (negsuc n) small le = ap (option_and_then negative) (natural_read_within most (suc n) small le)

pub hint_read : (n : ℕ) → n < 2 ^ 64 → integer_said (decimal n) ≡ Some (pos n)
hint_read n small = said_digits (decimal n) (digits_made n small) (decimal_nonempty n small) ∙ ap (option_map pos) (natural_read n small)

-- ---- words
digit_solid : (b : ℕ) → is_digit b ≡ true → is_blank b ≡ false
digit_solid b h = grind (arith, nat_tests)

solid_digits : (ds : List ℕ) → AreDigits ds → All (λ b. is_blank b ≡ false) ds
solid_digits [] are = All-nil (λ (b : ℕ). is_blank b ≡ false)
solid_digits (b ∷ bs) are =
    let h = and_parts (is_digit b) (list_all is_digit bs) are in
    All-cons (λ (x : ℕ). is_blank x ≡ false) b bs (digit_solid b h.0) (solid_digits bs h.1)

pub decimal_word : (n : ℕ) → n < 2 ^ 64 → IsWord (decimal n)
decimal_word n small = record { some = decimal_nonempty n small; solid = solid_digits (decimal n) (digits_made n small) }

pub signed_word : (z : ℤ) → unsigned_abs z < 2 ^ 64 → IsWord (signed_decimal z)
signed_word (pos n) small = decimal_word n small
signed_word (negsuc n) small = record {
  some = omega arith;
  solid = All-cons (λ (x : ℕ). is_blank x ≡ false) 45 (decimal (suc n)) refl (solid_digits (decimal (suc n)) (digits_made (suc n) small));
}

-- what a number is not
pub signed_is_zero : (z : ℤ) → unsigned_abs z < 2 ^ 64 → bytes_eq (signed_decimal z) (codes "0") ≡ is_zero z
signed_is_zero (pos zero) small = ap (λ w. bytes_eq w (codes "0")) (decimal_digit 0 (omega arith))
signed_is_zero (pos (suc n)) small = false_from_ne_true (bytes_eq (decimal (suc n)) (codes "0")) (λ h. absurd (other ((bytes_eq-Decides (decimal (suc n)) (codes "0")).0 h)))
  where
    other : decimal (suc n) ≡ codes "0" → ⊥
    other e = absurd (cc (sym (natural_read (suc n) small) ∙ ap natural_said e))
signed_is_zero (negsuc n) small = refl

pub no_zero : (z : ℤ) → 0 < unsigned_abs z → is_zero z ≡ false
no_zero (pos zero) h = absurd (omega (arith, h))
no_zero (pos (suc n)) h = refl
no_zero (negsuc n) h = refl

-- the word that ends a list
pub zero_word : IsWord (codes "0")
zero_word = record { some = omega arith; solid = All-cons (λ (b : ℕ). is_blank b ≡ false) 48 [] refl (All-nil (λ (b : ℕ). is_blank b ≡ false)) }

first_digit : (ds : List ℕ) (c : ℕ) → AreDigits ds → 57 < c → 0 < length ds → bytes_eq ds (c ∷ []) ≡ false
first_digit [] c are big some = absurd (omega (arith, some))
first_digit (b ∷ bs) c are big some = false_from_ne_true (bytes_eq (b ∷ bs) (c ∷ [])) (λ h. absurd (other ((bytes_eq-Decides (b ∷ bs) (c ∷ [])).0 h)))
  where
    digit : is_digit b ≡ true
    digit = (and_parts (is_digit b) (list_all is_digit bs) are).0

    below : b ≤ 57
    below = leb-true b 57 (and_parts (nat_le 48 b) (nat_le b 57) digit).1

    other : b ∷ bs ≡ c ∷ [] → ⊥
    other e = let same : b ≡ c = cc in absurd (omega (arith, same, below, big))

pub signed_no_deletion : (z : ℤ) → unsigned_abs z < 2 ^ 64 → bytes_eq (signed_decimal z) (codes "d") ≡ false
signed_no_deletion (pos n) small = first_digit (decimal n) 100 (digits_made n small) (omega arith) (decimal_nonempty n small)
signed_no_deletion (negsuc n) small = refl

-- a line that begins with a number is no comment
digits_count : (ds rest : List ℕ) → AreDigits ds → 0 < length ds → is_comment (ds ++ rest) ≡ false
digits_count [] rest are some = absurd (omega (arith, some))
digits_count (b ∷ bs) rest are some = digit_counts b ((and_parts (is_digit b) (list_all is_digit bs) are).0)
  where
    digit_counts : (b : ℕ) → is_digit b ≡ true → (b == 99) ≡ false
    digit_counts b h = grind (arith, nat_tests)

pub decimal_counts : (n : ℕ) (rest : List ℕ) → n < 2 ^ 64 → is_comment (decimal n ++ rest) ≡ false
decimal_counts n rest small = digits_count (decimal n) rest (digits_made n small) (decimal_nonempty n small)

pub signed_counts : (z : ℤ) (rest : List ℕ) → unsigned_abs z < 2 ^ 64 → is_comment (signed_decimal z ++ rest) ≡ false
signed_counts (pos n) rest small = decimal_counts n rest small
signed_counts (negsuc n) rest small = refl
