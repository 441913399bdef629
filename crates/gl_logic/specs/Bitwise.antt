-- Bitwise operations on unbounded integers in two's complement, which goes on without end to the left.
use Rattle.std.specs.Prelude.{ℕ, ◌-◌, ◌/◌, ◌%◌, ◌^◌, Bool, true, false, not, eqb, ℤ, pos, negsuc, bit_and, bit_or, bit_xor}

-- the bit at place k, the lowest at place 0: negsuc n has the bits that n has not
abbrev pub bit_at : ℕ → ℤ → Bool
bit_at k (pos n) = eqb (n / 2 ^ k % 2) 1
bit_at k (negsuc n) = not (eqb (n / 2 ^ k % 2) 1)

abbrev pub not_ℤ : ℤ → ℤ
not_ℤ (pos n) = negsuc n
not_ℤ (negsuc n) = pos n

-- a - bit_and a b has the bits of a that b has not
abbrev pub and_ℤ : ℤ → ℤ → ℤ
and_ℤ (pos a) (pos b) = pos (bit_and a b)
and_ℤ (pos a) (negsuc b) = pos (a - bit_and a b)
and_ℤ (negsuc a) (pos b) = pos (b - bit_and a b)
and_ℤ (negsuc a) (negsuc b) = negsuc (bit_or a b)

abbrev pub or_ℤ : ℤ → ℤ → ℤ
or_ℤ i j = not_ℤ (and_ℤ (not_ℤ i) (not_ℤ j))

abbrev pub xor_ℤ : ℤ → ℤ → ℤ
xor_ℤ (pos a) (pos b) = pos (bit_xor a b)
xor_ℤ (pos a) (negsuc b) = negsuc (bit_xor a b)
xor_ℤ (negsuc a) (pos b) = negsuc (bit_xor a b)
xor_ℤ (negsuc a) (negsuc b) = pos (bit_xor a b)

-- one of the two and not both
abbrev pub xor : Bool → Bool → Bool
xor true b = not b
xor false b = b
