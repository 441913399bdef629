-- The integers that a program value can be.
use Rattle.std.specs.Prelude.{◌-◌, ◌^◌, ℤ, pos, negsuc, ◌≤ℤ◌}

-- within 128 bits: from -2 ^ 127 to 2 ^ 127 - 1
abbrev pub Fits : ℤ → Type 0
Fits i = (negsuc (2 ^ 127 - 1) ≤ℤ i) × (i ≤ℤ pos (2 ^ 127 - 1))
