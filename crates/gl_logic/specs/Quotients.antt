-- Quotients of unbounded integers, rounded down and rounded toward zero, and what they leave.
-- A divisor of zero gives the quotient zero, and so leaves the dividend.
use Rattle.std.specs.Prelude.{ℕ, zero, suc, ◌/◌, ℤ, pos, negsuc, ◌-ℤ◌, ◌*ℤ◌, neg_ℤ, int_div}

-- a / d rounded down, for a natural number d above zero.
-- negsuc a is -(a + 1), the complement of a: rounding down goes through the complement.
abbrev pub floor_by : ℤ → ℕ → ℤ
floor_by (pos a) d = pos (a / d)
floor_by (negsuc a) d = negsuc (a / d)

-- i / j rounded down: by a negative j as -i by -j
abbrev pub floor_ℤ : ℤ → ℤ → ℤ
floor_ℤ i (pos zero) = pos 0
floor_ℤ i (pos (suc d)) = floor_by i (suc d)
floor_ℤ i (negsuc d) = floor_by (neg_ℤ i) (suc d)

abbrev pub mod_ℤ : ℤ → ℤ → ℤ
mod_ℤ i j = i -ℤ (floor_ℤ i j *ℤ j)

-- i / j rounded toward zero
abbrev pub truncate_ℤ : ℤ → ℤ → ℤ
truncate_ℤ i (pos zero) = pos 0
truncate_ℤ i (pos (suc d)) = int_div i (pos (suc d))
truncate_ℤ i (negsuc d) = int_div i (negsuc d)

abbrev pub rem_ℤ : ℤ → ℤ → ℤ
rem_ℤ i j = i -ℤ (truncate_ℤ i j *ℤ j)
