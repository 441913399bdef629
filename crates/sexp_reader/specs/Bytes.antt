-- The bytes of a text, by what they can stand for.
use Rattle.std.specs.Prelude.{ℕ, ◌-◌, ◌==◌, nat_le, ◌&&◌, ◌||◌, not, Bool, if◌then◌else◌, List, [], ◌∷◌, take, drop}
use Rattle.std.specs.List.{list_any, prefix_len}

-- tab, line feed, form feed, carriage return and space
abbrev pub is_white : ℕ → Bool
is_white byte = (byte == 9) || ((byte == 10) || ((byte == 12) || ((byte == 13) || (byte == 32))))

-- the bytes that end a token, though they can be seen: ( ) " ' ` , ; | \
abbrev pub ends_token : ℕ → Bool
ends_token byte = list_any (λ other. byte == other) (40 ∷ 41 ∷ 34 ∷ 39 ∷ 96 ∷ 44 ∷ 59 ∷ 124 ∷ 92 ∷ [])

-- the bytes that tokens are made of
abbrev pub is_constituent : ℕ → Bool
is_constituent byte = nat_le 33 byte && nat_le byte 126 && not (ends_token byte)

abbrev pub is_printable : ℕ → Bool
is_printable byte = nat_le 32 byte && nat_le byte 126

-- the bytes that strings are made of
abbrev pub is_string_byte : ℕ → Bool
is_string_byte byte = is_printable byte || ((byte == 9) || ((byte == 10) || (byte == 13)))

abbrev pub is_digit : ℕ → Bool
is_digit byte = nat_le 48 byte && nat_le byte 57

abbrev pub is_small_letter : ℕ → Bool
is_small_letter byte = nat_le 97 byte && nat_le byte 122

abbrev pub upper : ℕ → ℕ
upper byte = if is_small_letter byte then byte - 32 else byte

-- the length of the longest front of such bytes
abbrev pub run : (ℕ → Bool) → List ℕ → ℕ
run is_one bytes = prefix_len is_one bytes

-- that front, and what is behind it
abbrev pub front : (ℕ → Bool) → List ℕ → List ℕ
front is_one bytes = take (run is_one bytes) bytes

abbrev pub behind_front : (ℕ → Bool) → List ℕ → List ℕ
behind_front is_one bytes = drop (run is_one bytes) bytes
