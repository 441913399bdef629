-- The home of a hash is one of the slots.
use Rattle.std.proofs.Common.{ℕ, zero, suc, ◌*◌, ◌/◌, ◌<◌, ◌≤◌, arith}
use Rattle.std.proofs.Math.Nat.{mul-lt-mul_of_pos_right, mul-le-mul}

-- the block of a hash is none of the last of 2 ^ 60
pub home_fits : (hash count : ℕ) → hash < 18446744073709551616 → count ≤ 1152921504606846975 → hash * count / 18446744073709551616 ≤ 1152921504606846974
home_fits hash zero b c = omega (arith)
home_fits hash (suc count) b c = let below : hash * suc count < 18446744073709551616 * suc count = mul-lt-mul_of_pos_right b (omega arith) in omega (arith, below, c)

pub product_fits : (hash count : ℕ) → hash ≤ 18446744073709551615 → count ≤ 18446744073709551615 → hash * count ≤ 340282366920938463426481119284349108225
product_fits hash count b c = mul-le-mul b c
