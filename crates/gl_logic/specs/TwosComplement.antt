-- Integers and the lists of their bits in two's complement, the lowest bit first and the sign last.
use Rattle.std.specs.Prelude.{ℕ, zero, suc, Bool, false, cond, List, [], ◌∷◌, ℤ, pos, negsuc, ◌+ℤ◌}
use Rattle.gl_logic.specs.Quotients.{floor_by}
use Rattle.gl_logic.specs.Bitwise.{bit_at}

abbrev pub digit : Bool → ℤ
digit b = cond b (pos 1) (pos 0)

-- the integer of a list of bits: the last one counts as -1 where it is true, and each other one as itself and twice the rest
abbrev pub integer_of : List Bool → ℤ
integer_of [] = pos 0
integer_of (b ∷ []) = cond b (negsuc 0) (pos 0)
integer_of (b ∷ c ∷ bs) = digit b +ℤ (integer_of (c ∷ bs) +ℤ integer_of (c ∷ bs))

-- the lowest n bits of an integer
abbrev pub bits_of : ℕ → ℤ → List Bool
bits_of zero i = []
bits_of (suc n) i = bit_at 0 i ∷ bits_of n (floor_by i 2)

-- the bit of the list at place k, and its sign past its end
abbrev pub bit_of : List Bool → ℕ → Bool
bit_of [] k = false
bit_of (b ∷ []) k = b
bit_of (b ∷ c ∷ bs) zero = b
bit_of (b ∷ c ∷ bs) (suc k) = bit_of (c ∷ bs) k
