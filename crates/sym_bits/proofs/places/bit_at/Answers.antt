use Rattle.std.proofs.Common.{◌≡◌, ℕ, ◌+◌, ◌-◌, ◌^◌, ◌<◌, ◌≤◌, Bool, cond, not, pos, int_lt, length, arith, refl, ap, ◌∙◌, sym}
use Rattle.std.specs.Ordering.{int_eq}
use Rattle.gl_logic.specs.TwosComplement.{bit_of, integer_of}
use Rattle.sym_bits.specs.Columns.{shifted}
use Rattle.sym_bits.proofs.Columns.{shifted_none}
use Rattle.bfr_store.proofs.Keeping.{keeps_then}
use Rattle.sym_bits.specs.Integers.{AllLive, bits_under, integer_under}
use Rattle.sym_bits.proofs.Calls.{bits_kept, bits_length, bit_kept, makes_then}
use Rattle.sym_bits.proofs.Numbers.{power_fits, at_place}
use Rattle.sym_bits.proofs.Halving.{sign_bit}
use Rattle.sym_bits.proofs.places.bit_at.Goals as goal

pub pick-requires-clause-most : goal.pick-requires-clause-most
pick-requires-clause-most g c = power_fits c.min-level.result (omega (arith, c.min-level.ensures))

pub returns : goal.returns
returns g c =
    let m = g.B.Meaning in
    let start = c.args.store.now in
    let first = c.pick.new.store in
    let second = c.is_nonzero.new.store in
    let third = c.choose.new.store in
    let near = c.in_ok-near.ensures.makes in
    let far = c.in_ok-is_far.ensures.makes in
    let found = c.in_ok-found.ensures.makes in
    let xs = c.args.index.now in
    let ys = c.args.a.now in
    let level = c.min-level.result in
    let last = c.len-last.result - 1 in
    let to_second = keeps_then m start first second near.keeps far.keeps in
    let to_third = keeps_then m start second third to_second found.keeps in
    record {
      makes = makes_then m start third _ _ _ _ to_third c.choose-2.ensures.makes (λ x.
          let xb = bits_under m start xs x in
          let yb = bits_under m start ys x in
          let lx = bits_length m start xs x in
          let ly = bits_length m start ys x in
          let end : c.len.result - 1 ≡ length yb - 1 = omega (arith, ly) in
          (λ i. cond
          ((bit_kept m start third to_third xs last x _ c.requires.index (c.bit-is_negative.ensures.truth x) ∙ (sign_bit xb last (omega (arith, lx)) (omega (arith, lx)) ∙ ap (λ z. int_lt z (pos 0)) (shifted_none xb))) i)
          (bit_kept m start third to_third ys 0 x _ c.requires.a (c.bit-lowest.ensures.truth x) i)
          ((found.truth x ∙ (λ j. cond
          ((far.truth x ∙ ap (λ z. not (int_eq z (pos 0))) (c.above-rest.ensures.value x ∙ ap (λ bs. shifted bs level) (bits_kept m start first near.keeps xs x c.requires.index))) j)
          ((bit_kept m start second to_second ys (c.len.result - 1) x _ c.requires.a (c.bit-sign.ensures.truth x) ∙ ap (bit_of yb) end) j)
          ((far.keeps.same c.in_ok-near.near x near.live ∙ near.truth x) j))) i))
          ∙ at_place xb yb (integer_of xb) level last refl c.min-level.ensures (omega (arith, lx)) (omega (arith, ly)) (omega (arith, ly)));
    }
