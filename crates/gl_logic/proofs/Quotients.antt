-- A floor or a truncation and what it leaves put the dividend together again, and what is left is bounded.
use Rattle.std.proofs.Common.{◌≡◌, ◌≢◌, ℕ, zero, suc, ◌<◌, ℤ, pos, negsuc, ◌-ℤ◌, ◌*ℤ◌, ◌≤ℤ◌, ◌<ℤ◌, unsigned_abs, int_rem, refl, ap, arith}
use Rattle.std.proofs.lemmas.Int.{ints, quot-rem, rem_below}
use Rattle.gl_logic.specs.Quotients.{floor_by, floor_ℤ, mod_ℤ, rem_ℤ}

-- what a quotient by d above zero leaves
pub left_by : (i : ℤ) (d : ℕ) → (pos 0 ≤ℤ (i -ℤ (floor_by i (suc d) *ℤ pos (suc d)))) × ((i -ℤ (floor_by i (suc d) *ℤ pos (suc d))) <ℤ pos (suc d))
left_by (pos a) d = (omega (arith, ints), omega (arith, ints))
left_by (negsuc a) d = (omega (arith, ints), omega (arith, ints))

pub mod_above : (i j : ℤ) → pos 0 <ℤ j → (pos 0 ≤ℤ mod_ℤ i j) × (mod_ℤ i j <ℤ j)
mod_above i (pos zero) h = absurd (omega (arith, ints, h))
mod_above i (pos (suc d)) h = left_by i d
mod_above i (negsuc d) h = absurd (omega (arith, ints, h))

pub mod_under : (i j : ℤ) → j <ℤ pos 0 → (j <ℤ mod_ℤ i j) × (mod_ℤ i j ≤ℤ pos 0)
mod_under i (pos d) h = absurd (omega (arith, ints, h))
mod_under (pos zero) (negsuc d) h = (omega (arith, ints), omega (arith, ints))
mod_under (pos (suc a)) (negsuc d) h = (omega (arith, ints), omega (arith, ints))
mod_under (negsuc a) (negsuc d) h = (omega (arith, ints), omega (arith, ints))

-- what a truncation leaves is what std's does
pub rem_is_int_rem : (i j : ℤ) → j ≢ pos 0 → rem_ℤ i j ≡ int_rem i j
rem_is_int_rem i (pos zero) h = absurd (h refl)
rem_is_int_rem i (pos (suc d)) h = omega (arith, ints, quot-rem i (pos (suc d)))
rem_is_int_rem i (negsuc d) h = omega (arith, ints, quot-rem i (negsuc d))

not_zero : (j : ℤ) → j ≢ pos 0 → 0 < unsigned_abs j
not_zero (pos zero) h = absurd (h refl)
not_zero (pos (suc d)) h = omega arith
not_zero (negsuc d) h = omega arith

pub rem_smaller : (i j : ℤ) → j ≢ pos 0 → unsigned_abs (rem_ℤ i j) < unsigned_abs j
rem_smaller i j h = omega (arith, ap unsigned_abs (rem_is_int_rem i j h), rem_below i j (not_zero j h))

pub rem_by_zero : (i : ℤ) → rem_ℤ i (pos 0) ≡ i
rem_by_zero i = omega (arith, ints)

pub rem_not_negative : (i j : ℤ) → pos 0 ≤ℤ i → pos 0 ≤ℤ rem_ℤ i j
rem_not_negative (negsuc a) j h = absurd (omega (arith, ints, h))
rem_not_negative (pos a) (pos zero) h = omega (arith, ints)
rem_not_negative (pos a) (pos (suc d)) h = let e = rem_is_int_rem (pos a) (pos (suc d)) (λ p. cc) in omega (arith, ints, e)
rem_not_negative (pos a) (negsuc d) h = let e = rem_is_int_rem (pos a) (negsuc d) (λ p. cc) in omega (arith, ints, e)

pub rem_not_positive : (i j : ℤ) → i ≤ℤ pos 0 → rem_ℤ i j ≤ℤ pos 0
rem_not_positive (pos (suc a)) j h = absurd (omega (arith, ints, h))
rem_not_positive (pos zero) (pos zero) h = omega (arith, ints)
rem_not_positive (pos zero) (pos (suc d)) h = let e = rem_is_int_rem (pos 0) (pos (suc d)) (λ p. cc) in omega (arith, ints, e)
rem_not_positive (pos zero) (negsuc d) h = let e = rem_is_int_rem (pos 0) (negsuc d) (λ p. cc) in omega (arith, ints, e)
rem_not_positive (negsuc a) (pos zero) h = omega (arith, ints)
rem_not_positive (negsuc a) (pos (suc d)) h = let e = rem_is_int_rem (negsuc a) (pos (suc d)) (λ p. cc) in omega (arith, ints, e)
rem_not_positive (negsuc a) (negsuc d) h = let e = rem_is_int_rem (negsuc a) (negsuc d) (λ p. cc) in omega (arith, ints, e)

pub floor_is_by : (i : ℤ) (d : ℕ) → 0 < d → floor_ℤ i (pos d) ≡ floor_by i d
floor_is_by i zero h = absurd (omega (arith, h))
floor_is_by i (suc d) h = refl
