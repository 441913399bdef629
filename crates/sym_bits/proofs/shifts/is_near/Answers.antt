use Rattle.std.proofs.Common.{◌≡◌, ℕ, ◌+◌, ◌≤◌, Bool, length, arith, ap, ◌∙◌, sym}
use Rattle.std.specs.Ordering.{int_eq}
use Rattle.bfr_store.proofs.Keeping.{keeps_none}
use Rattle.sym_bits.specs.Integers.{bits_under}
use Rattle.sym_bits.proofs.Calls.{bits_length, makes_then}
use Rattle.sym_bits.proofs.Floors.{fits_is}
use Rattle.sym_bits.proofs.shifts.is_near.Goals as goal

pub returns : goal.returns
returns g c =
    let m = g.B.Meaning in
    let start = c.args.store.now in
    let cs = c.args.count.now in
    record {
      makes = makes_then m start start _ _ _ _ (keeps_none m start) c.same.ensures.makes (λ x.
          (λ i. int_eq (c.above-high.ensures.value x i) (c.above-sign.ensures.value x i))
          ∙ fits_is (bits_under m start cs x) c.len.result c.args.levels (omega (arith, c.len.ensures.len, bits_length m start cs x)));
    }
