-- Past the width stands the sign.
use Rattle.std.proofs.Common.{◌≡◌, ℕ, ◌%◌, not, eqb, ltb, false, ℤ, pos, negsuc, ◌<ℤ◌, FitsSigned, int_lt, sym, ◌∙◌, ap, arith}
use Rattle.std.proofs.lemmas.Int.{ints}
use Rattle.std.specs.Int.{w128}
use Rattle.gl_logic.specs.Bitwise.{bit_at}
use Rattle.gl_logic.specs.Object.{Int}
use Rattle.gl_logic.specs.PrimValue.{natural_in}
use Rattle.int_prims.proofs.Powers.{no_quotient}

not_below : (n : ℕ) → ltb n 0 ≡ false
not_below n = grind arith

pub far_bit : (place i : ℤ) → FitsSigned w128 i → pos 127 <ℤ place → int_lt i (pos 0) ≡ bit_at (natural_in (Int place)) i
far_bit (negsuc k) i f h = absurd (omega (arith, ints, h))
far_bit (pos k) (pos n) f h = not_below n ∙ sym (ap (λ m. eqb (m % 2) 1) (no_quotient n 127 k f.sfits (omega (arith, ints, h))))
far_bit (pos k) (negsuc n) f h = sym (ap (λ m. not (eqb (m % 2) 1)) (no_quotient n 127 k f.sfits (omega (arith, ints, h))))
