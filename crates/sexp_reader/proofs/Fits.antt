-- Places within 32 bits.
use Rattle.std.proofs.Common.{ℕ, List, [], ◌∷◌, length, ◌+◌, arith, true, false, cond, eqb}
use Rattle.sexp_reader.specs.declared.place.Place.{Place}
use Rattle.sexp_reader.specs.Places.{after, behind, Fits}

fits_after : (place : Place) (byte n : ℕ) → Fits place (n + 1) → Fits (after place byte) n
fits_after place byte n h = elim (eqb byte 10) as (λ b. Fits (cond b (record { line = place.line + 1; column = 1 }) (record { line = place.line; column = place.column + 1 })) n) [
  | true ↦ (omega (arith, h.0), omega (arith, h.2), omega (arith, h.2))
  | false ↦ (omega (arith, h.0), omega (arith, h.1), omega (arith, h.2))
]

pub fits_behind : (place : Place) (bytes : List ℕ) (n : ℕ) → Fits place (length bytes + n) → Fits (behind place bytes) n
fits_behind place [] n h = (omega (arith, h.0), omega (arith, h.1), omega (arith, h.2))
fits_behind place (b ∷ bs) n h = fits_behind (after place b) bs n (fits_after place b (length bs + n) (omega (arith, h.0), omega (arith, h.1), omega (arith, h.2)))
