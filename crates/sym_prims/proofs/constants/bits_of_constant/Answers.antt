use Rattle.std.proofs.Common.{◌≡◌, ℕ, ◌+◌, ◌≤◌, Bool, List, [], ◌∷◌, length, length-append, ap, sym, ◌∙◌, arith}
use Rattle.std.proofs.lemmas.Int.{ints}
use Rattle.std.proofs.Math.Facts.{to_z-of_z}
use Rattle.std.specs.Int.{w128}
use Rattle.std.proofs.lemmas.List.Elements.{All-push}
use Rattle.gl_logic.specs.TwosComplement.{bits_of, integer_of}
use Rattle.gl_logic.proofs.TwosComplement.{from_bits_of}
use Rattle.sym_bits.specs.Integers.{AllLive}
use Rattle.sym_prims.proofs.ConstantBits.{mapped_push}
use Rattle.sym_prims.proofs.constants.bits_of_constant.Goals as goal

pub loop-k-preserved : goal.loop-k-preserved
loop-k-preserved g c =
    let m = g.B.Meaning in
    let store = c.args.store.now in
    let inv = c.loop-k.invariant in
    let bit = c.constant-in-loop-k in
    let live : AllLive m store c.push.new.self = rw c.push.ensures (All-push (m.live store) c.loop-k.bits bit.result inv.live bit.ensures.live) in
    record {
      live = live;
      width = omega (arith, inv.width, ap length c.push.ensures, length-append c.loop-k.bits (bit.result ∷ []));
      value = λ x.
          mapped_push (λ e. m.truth_of store e x) c.loop-k.bits c.push.new.self bit.result c.loop-k.k _ c.push.ensures (inv.value x) (bit.ensures.truth x ∙ c.bit_of_integer-in-loop-k.ensures);
    }

pub returns-clause-value : goal.returns-clause-value
returns-clause-value g c x =
    let inv = c.loop-k.invariant in
    let k : c.loop-k.k ≡ 128 = omega arith in
    ap integer_of (inv.value x ∙ (λ i. bits_of (k i) (to_z-of_z {w = w128} {z = c.args.i} c.ranges.i i)))
    ∙ from_bits_of 127 c.args.i (record { least = omega (arith, ints, c.ranges.i); most = omega (arith, ints, c.ranges.i) })
