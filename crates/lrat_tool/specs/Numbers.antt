-- Words that spell numbers: decimal digits without a leading zero, with a minus sign before a negative one.
use Rattle.std.specs.Prelude.{ℕ, zero, suc, ℤ, pos, negsuc, nat_le, Bool, true, false, ◌&&◌, ◌==◌, if◌then◌else◌, List, [], ◌∷◌, Option, Some, None, option_map, option_and_then}
use Rattle.std.specs.List.{list_all}
use Rattle.std.specs.Str.Parse.{digits_value}

abbrev pub is_digit : ℕ → Bool
is_digit b = nat_le 48 b && nat_le b 57

-- one digit, or several of which the first is not 0
abbrev pub is_numeral : List ℕ → Bool
is_numeral [] = false
is_numeral (b ∷ []) = is_digit b
is_numeral (b ∷ bs) = nat_le 49 b && (is_digit b && list_all is_digit bs)

-- the number of a word
abbrev pub natural_said : List ℕ → Option ℕ
natural_said word = if is_numeral word then Some (digits_value 10 word) else None

-- the number of a word, where it is at most so great
abbrev pub at_most : ℕ → ℕ → Option ℕ
at_most most n = if nat_le n most then Some n else None

abbrev pub natural_within : ℕ → List ℕ → Option ℕ
natural_within most word = if is_numeral word then at_most most (digits_value 10 word) else None

abbrev pub negative : ℕ → Option ℤ
negative zero = None
negative (suc n) = Some (negsuc n)

-- the integer of a word, where its size is at most so great
abbrev pub integer_within : ℕ → List ℕ → Option ℤ
integer_within most [] = None
integer_within most (b ∷ bs) = if b == 45 then option_and_then negative (natural_within most bs) else option_map pos (natural_within most (b ∷ bs))

-- the integer of a word
abbrev pub integer_said : List ℕ → Option ℤ
integer_said [] = None
integer_said (b ∷ bs) = if b == 45 then option_and_then negative (natural_said bs) else option_map pos (natural_said (b ∷ bs))

abbrev pub is_zero : ℤ → Bool
is_zero (pos zero) = true
is_zero _ = false
