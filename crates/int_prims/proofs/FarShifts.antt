-- Shifts by counts beyond the width.
use Rattle.std.proofs.Common.{◌≡◌, ◌≢◌, ℕ, zero, suc, ◌^◌, ◌≤◌, ℤ, pos, negsuc, ◌≤ℤ◌, ◌<ℤ◌, FitsSigned, refl, sym, ◌∙◌, ap, arith}
use Rattle.std.proofs.lemmas.Int.{ints}
use Rattle.std.proofs.lemmas.Nat.{mul-le}
use Rattle.std.specs.Int.{w128}
use Rattle.gl_logic.specs.Quotients.{floor_by}
use Rattle.gl_logic.specs.Shifts.{ash_ℤ}
use Rattle.gl_logic.specs.Width.{Fits}
use Rattle.int_prims.proofs.Powers.{power_grows, no_quotient}

-- far to the right the sign alone is left
pub far_right : (i c : ℤ) → FitsSigned w128 i → c <ℤ negsuc 126 → floor_by i (2 ^ 127) ≡ ash_ℤ i c
far_right i (pos k) f h = absurd (omega (arith, ints, h))
far_right (pos n) (negsuc k) f h = ap pos (no_quotient n 127 127 f.sfits (omega arith) ∙ sym (no_quotient n 127 (suc k) f.sfits (omega (arith, ints, h))))
far_right (negsuc n) (negsuc k) f h = ap negsuc (no_quotient n 127 127 f.sfits (omega arith) ∙ sym (no_quotient n 127 (suc k) f.sfits (omega (arith, ints, h))))

minus_one : (k : ℕ) → 127 ≤ k → k ≢ 127 → 128 ≤ k
minus_one k h m = omega arith

-- far to the left nothing fits but -1 at 127 places
pub far_left : (i c : ℤ) → (i ≡ pos 0 → ⊥) → pos 127 ≤ℤ c → (c ≡ pos 127 → i ≡ negsuc 0 → ⊥) → Fits (ash_ℤ i c) → ⊥
far_left i (negsuc k) z h m f = omega (arith, ints, h)
far_left (pos zero) (pos k) z h m f = z refl
far_left (pos (suc n)) (pos k) z h m f =
    let p = power_grows 127 k (omega (arith, ints, h)) in
    let q = mul-le 1 (2 ^ 127) (suc n) (2 ^ k) (omega arith) p in omega (arith, ints, q, f.1)
far_left (negsuc (suc n)) (pos k) z h m f =
    let p = power_grows 127 k (omega (arith, ints, h)) in
    let q = mul-le 2 (2 ^ 127) (suc (suc n)) (2 ^ k) (omega arith) p in omega (arith, ints, q, f.0)
far_left (negsuc zero) (pos k) z h m f =
    let l : 128 ≤ k = minus_one k (omega (arith, ints, h)) (λ e. m (ap pos e) refl) in
    let p = power_grows 128 k l in omega (arith, ints, p, f.0)
