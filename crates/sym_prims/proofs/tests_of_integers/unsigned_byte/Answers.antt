use Rattle.std.proofs.Common.{◌≡◌, ℕ, ◌-◌, ◌≤◌, Bool, not, ◌&&◌, int_lt, pos, arith, ap, ◌∙◌}
use Rattle.bfr_store.specs.Keeps.{Keeps}
use Rattle.bfr_store.proofs.Keeping.{keeps_then}
use Rattle.sym_bits.specs.Integers.{bits_under, integer_under}
use Rattle.sym_bits.proofs.Calls.{makes_then, integer_kept, bit_kept, bits_length}
use Rattle.sym_prims.proofs.Integers.{unsigned_by_length, last_bit}
use Rattle.sym_prims.proofs.tests_of_integers.unsigned_byte.Goals as goal

pub returns : goal.returns
returns g c =
    let m = g.B.Meaning in
    let start = c.args.store.now in
    let between = c.int_length.new.store in
    let now = c.less.new.store in
    let made = c.in_ok-length.ensures.makes in
    let less = c.in_ok-is_short.ensures.makes in
    let xs = c.args.a.now in
    let k : Keeps m start now = keeps_then m start between now made.keeps less.keeps in
    record {
      makes = makes_then m start now _ _ _ _ k c.both.ensures.makes (λ x.
          let ws = integer_under m start c.args.width.now x in
          let is = integer_under m start xs x in
          let sign = bit_kept m start now k xs (c.len.result - 1) x _ c.requires.a (c.bit-is_negative.ensures.truth x)
          ∙ last_bit (bits_under m start xs x) (c.len.result - 1) (omega (arith, c.len.ensures.len, c.len.ensures.some, bits_length m start xs x)) (omega (arith, c.len.ensures.len, c.len.ensures.some, bits_length m start xs x)) in
          let short = less.truth x ∙ (λ i. int_lt (integer_kept m start between made.keeps c.args.width.now x c.requires.width i) (made.value x i)) in
          (λ i. c.not.ensures.truth x i && c.not-2.ensures.truth x i)
          ∙ ((λ i. not (short i) && not (sign i)) ∙ unsigned_by_length ws is));
    }
