use Rattle.std.proofs.Common.{◌≡◌, ℕ, ◌+◌, ◌-◌, ◌≤◌, Bool, cond, length, pos, ℤ, ◌+ℤ◌, ◌<ℤ◌, ◌≤ℤ◌, int_lt, arith, refl, ap, ◌∙◌, sym}
use Rattle.bfr_store.specs.Keeps.{Keeps}
use Rattle.bfr_store.proofs.Keeping.{keeps_then}
use Rattle.gl_logic.specs.Bitwise.{not_ℤ}
use Rattle.sym_bits.specs.Integers.{bits_under, integer_under}
use Rattle.sym_bits.proofs.Calls.{bits_length, integer_kept}
use Rattle.sym_bits.proofs.Columns.{shifted_none}
use Rattle.sym_bits.proofs.Halving.{sign_bit}
use Rattle.sym_bits.proofs.Rests.{floor_parts, same_divides, same_dividend, turned_some}
use Rattle.sym_bits.proofs.quotients.floor_above.Goals as goal

pub returns-clause-value : goal.returns-clause-value
returns-clause-value g c x p =
    let m = g.B.Meaning in
    let start = c.args.store.now in
    let first = c.complement_if.new.store in
    let second = c.divide.new.store in
    let third = c.complement_if-2.new.store in
    let fourth = c.complement_if-3.new.store in
    let fifth = c.select.new.store in
    let last = c.add.new.store in
    let dividend = c.in_ok-dividend.ensures.makes in
    let divided = c.in_ok-quotient.ensures in
    let quotient = c.in_ok-quotient-2.ensures.makes in
    let turned = c.in_ok-turned.ensures.makes in
    let back = c.in_ok-back.ensures.makes in
    let rest = c.in_ok-rest.ensures.makes in
    let sign = c.bit-is_negative.result in
    let live = c.bit-is_negative.ensures.live in
    let s = m.truth_of start sign x in
    let xs = c.args.a.now in
    let ds = c.args.divisor.now in
    let i = integer_under m start xs x in
    let d = integer_under m start ds x in
    let n = bits_length m start xs x in
    let es : s ≡ int_lt i (pos 0) =
    c.bit-is_negative.ensures.truth x ∙ (sign_bit (bits_under m start xs x) (c.len.result - 1) (omega (arith, n, c.len.ensures.len, c.len.ensures.some)) (omega (arith, n, c.len.ensures.len, c.len.ensures.some)) ∙ ap (λ z. int_lt z (pos 0)) (shifted_none (bits_under m start xs x))) in
    let to_second : Keeps m start second = keeps_then m start first second dividend.keeps divided.keeps in
    let to_third : Keeps m start third = keeps_then m start second third to_second quotient.keeps in
    let to_fourth : Keeps m start fourth = keeps_then m start third fourth to_third turned.keeps in
    let from_third : Keeps m third last = keeps_then m third fourth last turned.keeps (keeps_then m fourth fifth last back.keeps rest.keeps) in
    let same_d = integer_kept m start first dividend.keeps ds x c.requires.divisor in
    let above : pos 0 <ℤ integer_under m first ds x = rw same_d p in
    let q = integer_under m second c.in_ok-quotient.quotient x in
    let r = integer_under m second c.in_ok-quotient.rest x in
    let parts = floor_parts i d q r s es p (same_divides _ d _ q r same_d (same_dividend _ _ _ q r (dividend.value x) (divided.value x (rw (dividend.value x) (turned_some i s es)) above))) in (
      integer_kept m third last from_third c.in_ok-quotient-2.quotient x quotient.live
          ∙ (quotient.value x ∙ ((λ j. cond (to_second.same sign x live j) (not_ℤ q) q) ∙ parts.quotient)),
      rest.value x
          ∙ ((λ j. ((back.value x ∙ (λ k. cond (to_fourth.same sign x live k) (integer_kept m start fourth to_fourth ds x c.requires.divisor k) (c.constant_bit-zero.ensures.value x k))) j)
          +ℤ ((integer_kept m fourth fifth back.keeps c.in_ok-turned.turned x turned.live ∙ (turned.value x ∙ (λ k. cond (to_third.same sign x live k)
          (not_ℤ (integer_kept m second third quotient.keeps c.in_ok-quotient.rest x divided.live.1 k)) (integer_kept m second third quotient.keeps c.in_ok-quotient.rest x divided.live.1 k)))) j))
          ∙ parts.rest),
    )
