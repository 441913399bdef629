-- Integers that are taken apart bit by bit, and put together again.
use Rattle.std.specs.Prelude.{ℕ, zero, suc, ◌+◌, ◌^◌, Bool, true, false, cond, ◌&&◌, ◌||◌, List, [], ◌∷◌, ℤ, pos, negsuc, ◌+ℤ◌}
use Rattle.gl_logic.specs.TwosComplement.{digit, integer_of, bit_of}

-- what a sign alone stands for
abbrev pub sign_value : Bool → ℤ
sign_value b = cond b (negsuc 0) (pos 0)

-- an integer whose lowest bits are these, and whose other bits are those of z
abbrev pub onto : List Bool → ℤ → ℤ
onto [] z = z
onto (b ∷ bs) z = digit b +ℤ (onto bs z +ℤ onto bs z)

-- the integer of the list without its k lowest bits
abbrev pub shifted : List Bool → ℕ → ℤ
shifted [] k = pos 0
shifted (b ∷ []) k = sign_value b
shifted (b ∷ c ∷ bs) zero = integer_of (b ∷ c ∷ bs)
shifted (b ∷ c ∷ bs) (suc k) = shifted (c ∷ bs) k

-- at least two of the three hold
abbrev pub majority : Bool → Bool → Bool → Bool
majority true b c = b || c
majority false b c = b && c

-- the number that the n lowest bits of the list are
abbrev pub low_number : ℕ → List Bool → ℕ
low_number zero bs = 0
low_number (suc n) bs = low_number n bs + cond (bit_of bs n) (2 ^ n) 0
