use Rattle.std.proofs.Common.{◌≡◌, ℕ, ◌+◌, ◌-◌, ◌<◌, ◌≤◌, Bool, cond, length, ℤ, pos, ◌+ℤ◌, arith, ap, ◌∙◌, sym}
use Rattle.std.proofs.lemmas.Int.{ints}
use Rattle.bfr_store.specs.Keeps.{Keeps}
use Rattle.bfr_store.specs.Edges.{xor}
use Rattle.bfr_store.proofs.Keeping.{keeps_then}
use Rattle.gl_logic.specs.TwosComplement.{digit}
use Rattle.sym_bits.specs.Integers.{AllLive, bits_under, integer_under}
use Rattle.sym_bits.proofs.Calls.{live_kept, bit_kept, bits_kept, bits_length, integer_kept}
use Rattle.sym_bits.proofs.Halving.{length_column, length_end, sign_bit}
use Rattle.sym_bits.proofs.lengths.int_length.Goals as goal

plus_one : (i j : ℤ) (k : ℕ) → i ≡ pos k → j ≡ pos 0 → (i +ℤ j) +ℤ pos 1 ≡ pos (k + 1)
plus_one i j k e h = omega (arith, ints, e, h)

pub loop-k-preserved : goal.loop-k-preserved
loop-k-preserved g c =
    let m = g.B.Meaning in
    let inv = c.loop-k.invariant in
    let start = c.args.store.now in
    let now = c.loop-k.store in
    let first = c.sum.new.store in
    let second = c.differ.new.store in
    let last = c.select.new.store in
    let placed = c.in_ok-place.ensures.makes in
    let other = c.in_ok-reaches.ensures.makes in
    let chosen = c.in_ok-length.ensures.makes in
    let xs = c.args.a.now in
    let zs = c.constant_bit-zero.result in
    let k = c.loop-k.k in
    let from_first : Keeps m first last = keeps_then m first second last other.keeps chosen.keeps in
    let rise : Keeps m now last = keeps_then m now first last placed.keeps from_first in
    let to_first : Keeps m start first = keeps_then m start now first inv.keeps placed.keeps in
    let to_second : Keeps m now second = keeps_then m now first second placed.keeps other.keeps in
    let zero_is = λ (x : ℕ → Bool). integer_kept m start now inv.keeps zs x c.constant_bit-zero.ensures.live ∙ c.constant_bit-zero.ensures.value x in
    let place_is = λ (x : ℕ → Bool). placed.value x ∙ plus_one (integer_under m now c.loop-k.place x) (integer_under m now zs x) k (inv.place_is x) (zero_is x) in
    record {
      keeps = keeps_then m start now last inv.keeps rise;
      a = live_kept m now last rise xs inv.a;
      sign = rise.stays c.bit-sign.result inv.sign;
      zero = live_kept m now last rise zs inv.zero;
      place = live_kept m first last from_first c.in_ok-place.place placed.live;
      found = chosen.live;
      place_width = omega (arith, c.in_ok-place.ensures.width, inv.place_width, c.constant_bit-zero.ensures.width);
      found_width = omega (arith, c.in_ok-place.ensures.width, c.in_ok-length.ensures.width, inv.place_width, inv.found_width, c.constant_bit-zero.ensures.width);
      place_is = λ x. integer_kept m first last from_first c.in_ok-place.place x placed.live ∙ place_is x;
      value = λ x.
          length_column (bits_under m start xs x) k _ _ _ (integer_under m now c.loop-k.length x) _ (integer_under m second c.in_ok-place.place x)
          (bit_kept m start first to_first xs k x _ c.requires.a (c.bit.ensures.truth x))
          (to_first.same c.bit-sign.result x c.bit-sign.ensures.live ∙ (c.bit-sign.ensures.truth x ∙ sign_bit (bits_under m start xs x) (c.len-last.result - 1) (omega (arith, bits_length m start xs x)) (omega (arith, bits_length m start xs x))))
          (other.truth x)
          (integer_kept m first second other.keeps c.in_ok-place.place x placed.live ∙ place_is x)
          (chosen.value x ∙ (λ i. cond (m.truth_of second c.in_ok-reaches.reaches x) (integer_under m second c.in_ok-place.place x) (integer_kept m now second to_second c.loop-k.length x inv.found i)))
          ∙ inv.value x;
    }

pub returns : goal.returns
returns g c =
    let m = g.B.Meaning in
    let inv = c.loop-k.invariant in
    let start = c.args.store.now in
    let xs = c.args.a.now in
    record {
      makes = record {
        keeps = inv.keeps;
        live = inv.found;
        value = λ x. length_end (bits_under m start xs x) 0 c.loop-k.k (integer_under m c.loop-k.store c.loop-k.length x) (omega (arith, bits_length m start xs x)) (omega (arith, bits_length m start xs x)) (inv.value x);
        full = tt;
      };
      width = omega (arith, inv.found_width);
    }
