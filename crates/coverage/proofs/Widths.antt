-- Powers of two, and integers of at least 128 bits.
use Rattle.std.proofs.Common.{◌≡◌, ℕ, zero, suc, true, ◌-◌, ◌*◌, ◌%◌, ◌^◌, ◌<◌, ◌≤◌, ℤ, pos, negsuc, FitsSigned, ◌∙◌, ap, arith}
use Rattle.std.proofs.lemmas.Nat.{one_shl, pow_below}
use Rattle.std.proofs.lemmas.Int.{ints, to_z_pos}
use Rattle.std.specs.Int.{w128, cast_signed}
use Rattle.std.proofs.Math.Nat.{pow-le-pow_right}
use Rattle.gl_logic.specs.Bytes.{is_signed_byte}
use Rattle.coverage.specs.Rows.{is_from, is_to}

pub shifted_one : (p : ℕ) → p < 127 → cast_signed w128 (1 * 2 ^ p % 2 ^ 128) ≡ pos (2 ^ p)
shifted_one p h = ap (cast_signed w128) (one_shl p 128 (omega (arith, h))) ∙ to_z_pos w128 (2 ^ p) (pow_below p 127 h)

grows : (j k : ℕ) → j ≤ k → 2 ^ j ≤ 2 ^ k
grows j k h = pow-le-pow_right (omega arith) h

pub wide : (width : ℕ) (i : ℤ) → FitsSigned w128 i → 128 ≤ width → true ≡ is_signed_byte (pos width) i
wide zero i f h = absurd (omega (arith, h))
wide (suc w) (pos m) f h = let p = grows 127 w (omega (arith, h)) in let s = f.sfits in grind (arith, ints, p, s)
wide (suc w) (negsuc m) f h = let p = grows 127 w (omega (arith, h)) in let s = f.sfits in grind (arith, ints, p, s)

pub wide_from : (width : ℕ) (i : ℤ) → FitsSigned w128 i → 128 ≤ width → true ≡ is_from width i
wide_from width i f h = let p = grows 127 (width - 1) (omega (arith, h)) in let s = f.sfits in grind (arith, ints, p, s)

pub wide_to : (width : ℕ) (i : ℤ) → FitsSigned w128 i → 128 ≤ width → true ≡ is_to width i
wide_to width i f h = let p = grows 127 (width - 1) (omega (arith, h)) in let s = f.sfits in grind (arith, ints, p, s)
