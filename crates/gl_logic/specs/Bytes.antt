-- Whether an integer lies within so many bits, without or with a sign. The width comes first.
use Rattle.std.specs.Prelude.{zero, suc, ◌^◌, Bool, false, ◌&&◌, ℤ, pos, negsuc, neg_ℤ, int_le, int_lt}

-- 0 <= i < 2 ^ width
abbrev pub is_unsigned_byte : ℤ → ℤ → Bool
is_unsigned_byte (pos width) i = int_le (pos 0) i && int_lt i (pos (2 ^ width))
is_unsigned_byte (negsuc w) i = false

-- -2 ^ (width - 1) <= i < 2 ^ (width - 1)
abbrev pub is_signed_byte : ℤ → ℤ → Bool
is_signed_byte (pos zero) i = false
is_signed_byte (pos (suc w)) i = int_le (neg_ℤ (pos (2 ^ w))) i && int_lt i (pos (2 ^ w))
is_signed_byte (negsuc w) i = false
