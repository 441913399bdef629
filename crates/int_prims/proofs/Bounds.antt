-- Bounds of bitwise results at 127 bits.
use Rattle.std.proofs.Common.{ℕ, ◌<◌, ◌^◌, bit_or, bit_xor}
use Rattle.std.proofs.lemmas.Nat.{or_lt, xor_lt}

pub or_of_127 : (a b : ℕ) → a < 2 ^ 127 → b < 2 ^ 127 → bit_or a b < 2 ^ 127
or_of_127 a b h k = or_lt 127 a b h k

pub xor_of_127 : (a b : ℕ) → a < 2 ^ 127 → b < 2 ^ 127 → bit_xor a b < 2 ^ 127
xor_of_127 a b h k = xor_lt 127 a b h k
