use Rattle.std.proofs.Common.{◌≡◌, ℕ, ◌+◌, ◌-◌, ◌<◌, ◌≤◌, Bool, length, pos, ◌≤ℤ◌, ◌<ℤ◌, ◌+ℤ◌, arith, ap, ◌∙◌, sym}
use Rattle.std.proofs.lemmas.Int.{ints}
use Rattle.bfr_store.proofs.Keeping.{keeps_none, keeps_then}
use Rattle.gl_logic.specs.TwosComplement.{digit}
use Rattle.sym_bits.specs.Columns.{shifted}
use Rattle.sym_bits.specs.Dividing.{Divides}
use Rattle.sym_bits.specs.Integers.{AllLive, bits_under, integer_under}
use Rattle.sym_bits.proofs.Calls.{live_kept, bit_kept, bits_length, integer_kept}
use Rattle.sym_bits.proofs.Rests.{divides_none, divides_next, divides_all, same_divides}
use Rattle.sym_bits.proofs.division.divide.Goals as goal

pub loop-done-init : goal.loop-done-init
loop-done-init g c =
    let m = g.B.Meaning in
    let s = c.args.store.now in
    record {
      keeps = keeps_none m s;
      dividend = c.requires.dividend;
      divisor = c.requires.divisor;
      quotient = c.constant_bit-quotient.ensures.live;
      rest = c.constant_bit-rest.ensures.live;
      quotient_width = omega (arith, c.constant_bit-quotient.ensures.width);
      rest_width = omega (arith, c.constant_bit-rest.ensures.width);
      value = λ x h p. divides_none (bits_under m s c.args.dividend.now x) (c.len-last.result - 1 - 0) (integer_under m s c.args.divisor.now x) _ _
          (omega (arith, bits_length m s c.args.dividend.now x, c.len-last.ensures.len, c.len-last.ensures.some)) h p (c.constant_bit-quotient.ensures.value x) (c.constant_bit-rest.ensures.value x);
    }

pub loop-done-preserved : goal.loop-done-preserved
loop-done-preserved g c =
    let m = g.B.Meaning in
    let inv = c.loop-done.invariant in
    let made = c.in_ok-digit.ensures in
    let start = c.args.store.now in
    let now = c.loop-done.store in
    let next = c.turn.new.store in
    let ns = c.args.dividend.now in
    let ds = c.args.divisor.now in
    let last = c.len-last.result - 1 in
    let done = c.loop-done.done in
    let k = last - 1 - done in
    record {
      keeps = keeps_then m start now next inv.keeps made.keeps;
      dividend = live_kept m now next made.keeps ns inv.dividend;
      divisor = live_kept m now next made.keeps ds inv.divisor;
      quotient = c.push_below-quotient.ensures.live;
      rest = made.live.1;
      quotient_width = omega (arith, c.push_below-quotient.ensures.width, inv.quotient_width);
      rest_width = made.width;
      value = λ x h p.
          let before = inv.value x h p in
          let same_d = integer_kept m start now inv.keeps ds x c.requires.divisor in
          let kept_q = integer_kept m now next made.keeps c.loop-done.quotient x inv.quotient in
          let most : integer_under m now c.loop-done.rest x <ℤ integer_under m now ds x = rw same_d before.most in
          divides_next (bits_under m start ns x) k (last - done) (last - (done + 1)) (integer_under m start ds x) (integer_under m now c.loop-done.quotient x) (integer_under m now c.loop-done.rest x) _ _ (m.truth_of now c.bit-next.result x) (m.truth_of next c.in_ok-digit.digit x)
          (omega (arith, c.loop-done-test.true)) (omega (arith, c.loop-done-test.true))
          (bit_kept m start now inv.keeps ns k x _ c.requires.dividend (c.bit-next.ensures.truth x)) before
          (same_divides _ _ _ _ _ same_d (made.value x before.least most))
          (c.push_below-quotient.ensures.value x ∙ (λ i. digit (m.truth_of next c.in_ok-digit.digit x) +ℤ (kept_q i +ℤ kept_q i)));
    }

pub returns-clause-value : goal.returns-clause-value
returns-clause-value g c x h p =
    divides_all (bits_under g.B.Meaning c.args.store.now c.args.dividend.now x) (c.len-last.result - 1 - c.loop-done.done) _ _ _ (omega arith) (c.loop-done.invariant.value x h p)
