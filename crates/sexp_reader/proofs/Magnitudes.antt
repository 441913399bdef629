-- The number that digits spell.
use Rattle.std.proofs.Common.{◌≡◌, ◌∙◌, sym, subst, ℕ, zero, suc, List, [], ◌∷◌, length, drop, get_or, ◌+◌, ◌-◌, ◌*◌, ◌<◌, ◌≤◌, arith}
use Rattle.std.specs.Prelude.{nat_le, ◌&&◌}
use Rattle.std.proofs.lemmas.Bool.{cond_both, and_parts, leb-true}
use Rattle.sexp_reader.specs.Bytes.{is_digit, upper}
use Rattle.std.proofs.lemmas.List.{at_drop_more}
use Rattle.sexp_reader.specs.Numbers.{digit_of, value}

le_mul : (base n : ℕ) → 0 < base → n ≤ n * base
le_mul base zero h = omega arith
le_mul base (suc n) h = omega (arith, le_mul base n h)

digit_most : (byte : ℕ) → digit_of byte < 256
digit_most byte =
    cond_both (is_digit byte) (byte - 48) _ (λ n. n < 256) (λ e. let h = leb-true byte 57 ((and_parts (nat_le 48 byte) (nat_le byte 57) e).1) in omega arith)
    (λ _. cond_both (nat_le 65 (upper byte) && nat_le (upper byte) 90) (upper byte - 55) 255 (λ n. n < 256)
    (λ e. let h = leb-true (upper byte) 90 ((and_parts (nat_le 65 (upper byte)) (nat_le (upper byte) 90) e).1) in omega arith) (λ _. omega arith))

some_base : (base n : ℕ) (digits : List ℕ) (i limit : ℕ) → 256 ≤ limit → limit ≤ n * base + digit_of (get_or digits i 0) → 0 < base
some_base zero n digits i limit k h = absurd (omega (arith, digit_most (get_or digits i 0)))
some_base (suc base) n digits i limit k h = omega arith

-- more digits make no smaller number
value_grows : (base n : ℕ) (bytes : List ℕ) (limit : ℕ) → 0 < base → limit ≤ n → limit ≤ value base n bytes
value_grows base n [] limit b h = h
value_grows base n (byte ∷ bytes) limit b h = value_grows base (n * base + digit_of byte) bytes limit b (omega (arith, le_mul base n b))

-- the next digit makes the number so large already
pub large_from : (base n : ℕ) (digits : List ℕ) (i limit : ℕ) → i < length digits → value base n (drop i digits) ≡ value base 0 digits
    → 256 ≤ limit → limit ≤ n * base + digit_of (get_or digits i 0) → limit ≤ value base 0 digits
large_from base n digits i limit l e k h =
    let next = n * base + digit_of (get_or digits i 0) in
    let path : value base next (drop (i + 1) digits) ≡ value base 0 digits = sym (at_drop_more (value base n) digits i 0 l) ∙ e in
    subst (λ m. limit ≤ m) path (value_grows base next (drop (i + 1) digits) limit (some_base base n digits i limit k h) h)
