-- Powers of two, and quotients by those that exceed the dividend.
use Rattle.std.proofs.Common.{◌≡◌, ℕ, ◌+◌, ◌*◌, ◌/◌, ◌%◌, ◌^◌, ◌<◌, ◌≤◌, pos, sym, ◌∙◌, ap, arith, subst}
use Rattle.std.proofs.lemmas.Nat.{shr_below, one_shl, pow_below}
use Rattle.std.proofs.lemmas.Int.{to_z_pos}
use Rattle.std.specs.Int.{w128, cast_signed}
use Rattle.std.proofs.Math.Nat.{pow-le-pow_right}

pub power_grows : (j k : ℕ) → j ≤ k → 2 ^ j ≤ 2 ^ k
power_grows j k h = pow-le-pow_right (omega arith) h

pub no_quotient : (n j k : ℕ) → n < 2 ^ j → j ≤ k → n / 2 ^ k ≡ 0
no_quotient n j k h l =
    let p = power_grows j k l in
    let q = shr_below n 0 k (let e : 0 + k ≡ k = omega arith in subst (λ (x : ℕ). n < 2 ^ x) (sym e) (omega (arith, p, h))) in omega (arith, q)

pub shifted_one : (p : ℕ) → p < 127 → cast_signed w128 (1 * 2 ^ p % 2 ^ 128) ≡ pos (2 ^ p)
shifted_one p h = ap (cast_signed w128) (one_shl p 128 (omega (arith, h))) ∙ to_z_pos w128 (2 ^ p) (pow_below p 127 h)
