-- Every value of 128 bits lies within a wider width.
use Rattle.std.proofs.Common.{◌≡◌, zero, suc, true, ℤ, pos, negsuc, ◌≤ℤ◌, FitsSigned, arith}
use Rattle.std.proofs.lemmas.Int.{ints}
use Rattle.std.specs.Int.{w128}
use Rattle.gl_logic.specs.Bytes.{is_unsigned_byte, is_signed_byte}
use Rattle.int_prims.proofs.Powers.{power_grows}

pub wide_unsigned : (width i : ℤ) → FitsSigned w128 i → pos 0 ≤ℤ i → pos 127 ≤ℤ width → true ≡ is_unsigned_byte width i
wide_unsigned (negsuc w) i f n h = absurd (omega (arith, ints, h))
wide_unsigned (pos w) (negsuc m) f n h = absurd (omega (arith, ints, n))
wide_unsigned (pos w) (pos m) f n h = let p = power_grows 127 w (omega (arith, ints, h)) in let s = f.sfits in grind (arith, ints, p, s)

pub wide_signed : (width i : ℤ) → FitsSigned w128 i → pos 128 ≤ℤ width → true ≡ is_signed_byte width i
wide_signed (negsuc w) i f h = absurd (omega (arith, ints, h))
wide_signed (pos zero) i f h = absurd (omega (arith, ints, h))
wide_signed (pos (suc w)) (pos m) f h = let p = power_grows 127 w (omega (arith, ints, h)) in let s = f.sfits in grind (arith, ints, p, s)
wide_signed (pos (suc w)) (negsuc m) f h = let p = power_grows 127 w (omega (arith, ints, h)) in let s = f.sfits in grind (arith, ints, p, s)
