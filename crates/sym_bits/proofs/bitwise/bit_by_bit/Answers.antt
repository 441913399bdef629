use Rattle.std.proofs.Common.{◌≡◌, ℕ, ◌+◌, ◌-◌, ◌++◌, ◌∷◌, [], ◌<◌, ◌≤◌, Bool, length, length-append, arith, refl, ap, ◌∙◌, sym}
use Rattle.gl_logic.specs.TwosComplement.{bit_of}
use Rattle.sym_bits.specs.Integers.{bits_under}
use Rattle.sym_bits.proofs.Calls.{live_kept, bit_kept, bits_length, stands_kept, stands_push, stands_end}
use Rattle.sym_bits.proofs.GateLaws.{gate_column, gate_sign, gate_same, gate_kept, gate_whole}
use Rattle.sym_bits.proofs.bitwise.bit_by_bit.Goals as goal

pub loop-k-preserved : goal.loop-k-preserved
loop-k-preserved g c =
    let inv = c.loop-k.invariant in
    let made = c.in_ok-apply.ensures.makes in
    let start = c.args.store.now in
    let now = c.loop-k.store in
    let next = c.apply.new.store in
    let xs = c.args.a.now in
    let ys = c.args.b.now in
    let k = c.loop-k.k in
    record {
      gate = gate_kept (g.B.Meaning.live now) (g.B.Meaning.live next) made.keeps.stays c.args.gate inv.gate;
      a = live_kept g.B.Meaning now next made.keeps xs inv.a;
      b = live_kept g.B.Meaning now next made.keeps ys inv.b;
      count = ap length c.push.ensures ∙ omega (arith, length-append c.loop-k.digits (c.in_ok-apply.field-0 ∷ []), inv.count);
      value = stands_push g.B.Meaning start now next c.loop-k.digits _ c.in_ok-apply.field-0 _ _ _ inv.value c.push.ensures made.keeps made.live
          (λ a. gate_column (λ e. g.B.Meaning.truth_of start e a) c.args.gate (bits_under g.B.Meaning start xs a) (bits_under g.B.Meaning start ys a) k _ _ _
          (bit_kept g.B.Meaning start now inv.value.keeps xs k a _ c.requires.a (c.bit-x.ensures.truth a))
          (bit_kept g.B.Meaning start now inv.value.keeps ys k a _ c.requires.b (c.bit-y.ensures.truth a))
          (made.truth a ∙ gate_same (λ e. g.B.Meaning.truth_of start e a) (λ e. g.B.Meaning.truth_of now e a) (g.B.Meaning.live start) (λ e l. inv.value.keeps.same e a l) c.args.gate c.requires.gate _ _));
    }

pub returns-clause-makes : goal.returns-clause-makes
returns-clause-makes g c =
    let inv = c.loop-k.invariant in
    let made = c.in_ok-sign.ensures.makes in
    let start = c.args.store.now in
    let now = c.loop-k.store in
    let next = c.apply-2.new.store in
    let xs = c.args.a.now in
    let ys = c.args.b.now in
    let k = c.loop-k.k in
    let top = c.max-top.result - 1 in
    let ended : top ≡ k = omega arith in
    let lx : length xs ≤ k + 1 = omega arith in
    let ly : length ys ≤ k + 1 = omega arith in
    let px : 0 < length xs = omega arith in
    let py : 0 < length ys = omega arith in
    stands_end g.B.Meaning start next c.loop-k.digits c.in_ok-sign.sign c.finish.result _ _ _
    (stands_kept g.B.Meaning start now next c.loop-k.digits _ _ _ inv.value made.keeps (λ a. refl)) made.live
    (λ a. gate_sign (λ e. g.B.Meaning.truth_of start e a) c.args.gate (bits_under g.B.Meaning start xs a) (bits_under g.B.Meaning start ys a) k _ _ _
    (bit_kept g.B.Meaning start now inv.value.keeps xs top a _ c.requires.a (c.bit-x-2.ensures.truth a) ∙ ap (bit_of (bits_under g.B.Meaning start xs a)) ended)
    (bit_kept g.B.Meaning start now inv.value.keeps ys top a _ c.requires.b (c.bit-y-2.ensures.truth a) ∙ ap (bit_of (bits_under g.B.Meaning start ys a)) ended)
    (omega (arith, px, bits_length g.B.Meaning start xs a)) (omega (arith, py, bits_length g.B.Meaning start ys a))
    (omega (arith, lx, bits_length g.B.Meaning start xs a)) (omega (arith, ly, bits_length g.B.Meaning start ys a))
    (made.truth a ∙ gate_same (λ e. g.B.Meaning.truth_of start e a) (λ e. g.B.Meaning.truth_of now e a) (g.B.Meaning.live start) (λ e l. inv.value.keeps.same e a l) c.args.gate c.requires.gate _ _))
    (λ a. gate_whole (λ e. g.B.Meaning.truth_of start e a) c.args.gate (bits_under g.B.Meaning start xs a) (bits_under g.B.Meaning start ys a))
    c.finish.ensures.value c.finish.ensures.parts
