use Rattle.std.proofs.Common.{◌≡◌, ℕ, ◌+◌, ◌-◌, ◌∷◌, [], ◌<◌, ◌≤◌, max, Bool, cond, length, length-append, pos, ℤ, ◌+ℤ◌, ◌-ℤ◌, ◌*ℤ◌, arith, refl, ap, ◌∙◌, sym}
use Rattle.bfr_store.specs.Keeps.{Keeps}
use Rattle.bfr_store.proofs.Keeping.{keeps_then}
use Rattle.gl_logic.specs.TwosComplement.{digit, bit_of}
use Rattle.sym_bits.specs.Columns.{onto, shifted}
use Rattle.sym_bits.specs.Integers.{AllLive, bits_under, integer_under}
use Rattle.sym_bits.proofs.Calls.{live_kept, bit_kept, bits_length, integer_kept, stands_kept, stands_push}
use Rattle.sym_bits.proofs.Columns.{shifted_none, shifted_next}
use Rattle.sym_bits.proofs.Ring.{product_column, product_sign}
use Rattle.sym_bits.proofs.products.times.Goals as goal

pub loop-k-preserved : goal.loop-k-preserved
loop-k-preserved g c =
    let m = g.B.Meaning in
    let inv = c.loop-k.invariant in
    let start = c.args.store.now in
    let now = c.loop-k.store in
    let first = c.select.new.store in
    let next = c.sum.new.store in
    let row = c.in_ok-row.ensures.makes in
    let total = c.in_ok-total.ensures.makes in
    let xs = c.args.a.now in
    let ys = c.args.b.now in
    let zs = c.constant_bit-zero.result in
    let ts = c.in_ok-total.total in
    let k = c.loop-k.k in
    let up : Keeps m now next = keeps_then m now first next row.keeps total.keeps in
    record {
      a = live_kept m now next up xs inv.a;
      b = live_kept m now next up ys inv.b;
      zero = live_kept m now next up zs inv.zero;
      rest = c.above-rest.ensures.live;
      width = omega (arith, c.above-rest.ensures.width, c.in_ok-total.ensures.width, c.in_ok-row.ensures.width, inv.width, c.constant_bit-zero.ensures.width);
      count = ap length c.push.ensures ∙ omega (arith, length-append c.loop-k.digits (c.bit-in-loop-k.result ∷ []), inv.count);
      value = stands_push m start now next c.loop-k.digits _ c.bit-in-loop-k.result _ _ _ inv.value c.push.ensures up c.bit-in-loop-k.ensures.live (λ x.
          let zero_is = integer_kept m start now inv.value.keeps zs x c.constant_bit-zero.ensures.live ∙ c.constant_bit-zero.ensures.value x in
          product_column (bits_under m start ys x) k (integer_under m start xs x) (integer_under m now c.loop-k.rest x) (integer_under m next ts x) (integer_under m next c.above-rest.result x) (m.truth_of now c.bit.result x) _
          (bit_kept m start now inv.value.keeps ys k x _ c.requires.b (c.bit.ensures.truth x))
          (total.value x ∙ (λ i. (integer_kept m now first row.keeps c.loop-k.rest x inv.rest i
          +ℤ (row.value x ∙ (λ j. cond (m.truth_of now c.bit.result x) (integer_kept m start now inv.value.keeps xs x c.requires.a j) (zero_is j))) i) +ℤ pos 0))
          (sym (shifted_none (bits_under m next ts x)) ∙ (shifted_next (bits_under m next ts x) 0
          ∙ (λ i. digit (sym (c.bit-in-loop-k.ensures.truth x) i) +ℤ (sym (c.above-rest.ensures.value x) i +ℤ sym (c.above-rest.ensures.value x) i)))));
    }

pub returns-clause-makes : goal.returns-clause-makes
returns-clause-makes g c =
    let m = g.B.Meaning in
    let inv = c.loop-k.invariant in
    let start = c.args.store.now in
    let now = c.loop-k.store in
    let first = c.select-2.new.store in
    let next = c.subtract.new.store in
    let row = c.in_ok-row-2.ensures.makes in
    let total = c.in_ok-total-2.ensures.makes in
    let xs = c.args.a.now in
    let ys = c.args.b.now in
    let zs = c.constant_bit-zero.result in
    let ts = c.in_ok-total-2.total in
    let k = c.loop-k.k in
    let last = c.len-last.result - 1 in
    let ended : last ≡ k = omega arith in
    let up : Keeps m now next = keeps_then m now first next row.keeps total.keeps in
    let stands = stands_kept m start now next c.loop-k.digits _ _ _ inv.value up (λ x. refl) in
    record {
      keeps = keeps_then m start now next inv.value.keeps up;
      live = c.append.ensures.live;
      value = λ x.
          let zero_is = integer_kept m start now inv.value.keeps zs x c.constant_bit-zero.ensures.live ∙ c.constant_bit-zero.ensures.value x in
          let n = bits_length m start ys x in
          c.append.ensures.value x
          ∙ (ap (onto (bits_under m next c.loop-k.digits x)) (shifted_none (bits_under m next ts x)
          ∙ product_sign (bits_under m start ys x) k (integer_under m start xs x) (integer_under m now c.loop-k.rest x) (integer_under m next ts x) (m.truth_of now c.bit-2.result x) (omega (arith, n)) (omega (arith, n))
          (bit_kept m start now inv.value.keeps ys last x _ c.requires.b (c.bit-2.ensures.truth x) ∙ ap (bit_of (bits_under m start ys x)) ended)
          (total.value x ∙ (λ i. integer_kept m now first row.keeps c.loop-k.rest x inv.rest i
          -ℤ (row.value x ∙ (λ j. cond (m.truth_of now c.bit-2.result x) (integer_kept m start now inv.value.keeps xs x c.requires.a j) (zero_is j))) i)))
          ∙ (stands.value x ∙ ap (λ z. integer_under m start xs x *ℤ z) (shifted_none (bits_under m start ys x))));
      full = tt;
    }
