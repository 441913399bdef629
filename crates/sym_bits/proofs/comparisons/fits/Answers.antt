use Rattle.std.proofs.Common.{◌≡◌, ℕ, ◌+◌, ◌≤◌, Bool, length, arith, ap, ◌∙◌, sym}
use Rattle.std.specs.Ordering.{int_eq}
use Rattle.bfr_store.proofs.Keeping.{keeps_none}
use Rattle.sym_bits.specs.Integers.{bits_under, integer_under}
use Rattle.sym_bits.proofs.Calls.{bits_length, makes_then}
use Rattle.sym_bits.proofs.Floors.{fits_is, fits_within}
use Rattle.sym_bits.proofs.comparisons.fits.Goals as goal

pub returns-clause-makes : goal.returns-clause-makes
returns-clause-makes g c =
    let start = c.args.store.now in
    let xs = c.args.a.now in
    makes_then g.B.Meaning start start _ _ _ _ (keeps_none g.B.Meaning start) c.same.ensures.makes (λ x.
    (λ i. int_eq (c.above-high.ensures.value x i) (c.above-sign.ensures.value x i))
    ∙ fits_is (bits_under g.B.Meaning start xs x) c.len.result 127 (omega (arith, c.len.ensures.len, bits_length g.B.Meaning start xs x)))

pub returns-clause-within : goal.returns-clause-within
returns-clause-within g c = fits_within g.B.Meaning _ _ c.same.result (λ x. integer_under g.B.Meaning c.args.store.now c.args.a.now x) (returns-clause-makes g c)
