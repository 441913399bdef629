-- Tokens that spell integers, and those that spell other numbers.
use Rattle.std.specs.Prelude.{ℕ, ◌+◌, ◌-◌, ◌*◌, ◌^◌, ◌==◌, nat_lt, nat_le, ◌&&◌, ◌||◌, Bool, true, false, if◌then◌else◌, List, [], ◌∷◌, length, Option, Some, None, ℤ, pos, neg_ℤ}
use Rattle.std.specs.List.{list_all, list_any}
use Rattle.sexp_reader.specs.Bytes.{is_digit, upper, behind_front}

-- ---- integers
-- what a digit counts in any base up to 36: 0 to 9, and letters from 10 on. What is no digit counts too much for a base
abbrev pub digit_of : ℕ → ℕ
digit_of byte = if is_digit byte then byte - 48 else (if nat_le 65 (upper byte) && nat_le (upper byte) 90 then upper byte - 55 else 255)

abbrev pub is_digit_in : ℕ → ℕ → Bool
is_digit_in base byte = nat_lt (digit_of byte) base

abbrev pub is_sign : ℕ → Bool
is_sign byte = (byte == 43) || (byte == 45)

abbrev pub behind_sign : List ℕ → List ℕ
behind_sign [] = []
behind_sign (byte ∷ bytes) = if is_sign byte then bytes else byte ∷ bytes

abbrev pub has_minus : List ℕ → Bool
has_minus [] = false
has_minus (byte ∷ bytes) = byte == 45

-- one digit or more
abbrev pub are_digits : ℕ → List ℕ → Bool
are_digits base bytes = nat_lt 0 (length bytes) && list_all (is_digit_in base) bytes

-- an optional sign, and one digit or more
abbrev pub is_integer : ℕ → List ℕ → Bool
is_integer base token = are_digits base (behind_sign token)

-- the number of digits behind those of n
abbrev pub value : ℕ → ℕ → List ℕ → ℕ
value base n [] = n
value base n (byte ∷ bytes) = value base (n * base + digit_of byte) bytes

-- the integer of a magnitude, below zero or not, where 128 bits hold it
abbrev pub signed : Bool → ℕ → Option ℤ
signed true n = if nat_le n (2 ^ 127) then Some (neg_ℤ (pos n)) else None
signed false n = if nat_lt n (2 ^ 127) then Some (pos n) else None

abbrev pub integer_of : ℕ → List ℕ → Option ℤ
integer_of base token = signed (has_minus token) (value base 0 (behind_sign token))

-- ---- other numbers
abbrev pub behind_digits : List ℕ → List ℕ
behind_digits bytes = behind_front is_digit bytes

abbrev pub begins_with_digit : List ℕ → Bool
begins_with_digit [] = false
begins_with_digit (byte ∷ bytes) = is_digit byte

-- one of e s f d l in either case, an optional sign, and one digit or more
abbrev pub is_exponent : List ℕ → Bool
is_exponent [] = false
is_exponent (byte ∷ bytes) = list_any (λ letter. upper byte == letter) (69 ∷ 83 ∷ 70 ∷ 68 ∷ 76 ∷ []) && are_digits 10 (behind_sign bytes)

-- `.` or `/`, and then only digits, maybe none
abbrev pub is_fraction : List ℕ → Bool
is_fraction [] = false
is_fraction (byte ∷ bytes) = ((byte == 46) || (byte == 47)) && list_all is_digit bytes

-- nothing, or an exponent
abbrev pub is_exponent_or_none : List ℕ → Bool
is_exponent_or_none [] = true
is_exponent_or_none (byte ∷ bytes) = is_exponent (byte ∷ bytes)

-- `.` and one digit or more, and maybe an exponent
abbrev pub is_point_and_digits : List ℕ → Bool
is_point_and_digits [] = false
is_point_and_digits (byte ∷ bytes) = (byte == 46) && begins_with_digit bytes && is_exponent_or_none (behind_digits bytes)

-- an exponent, or `.` and digits, maybe none, and an exponent
abbrev pub is_scaled : List ℕ → Bool
is_scaled [] = false
is_scaled (byte ∷ bytes) = is_exponent (byte ∷ bytes) || ((byte == 46) && is_exponent (behind_digits bytes))

-- three forms: an integer and a fraction's rest; an optional sign, digits, maybe none, a point and digits; an integer and
-- an exponent
abbrev pub is_number_form : List ℕ → Bool
is_number_form token =
    (begins_with_digit (behind_sign token) && is_fraction (behind_digits (behind_sign token)))
    || (is_point_and_digits (behind_digits (behind_sign token))
    || (begins_with_digit (behind_sign token) && is_scaled (behind_digits (behind_sign token))))
