use Rattle.std.proofs.Common.{rules, ◌≡◌, ◌∙◌, sym, subst, arith, ℤ, ◌+◌}
use mir.Val.{to_z, of_z}
use mir.Syntax.{w128}
use Rattle.std.proofs.lemmas.Int.{ints}
use Rattle.gl_logic.proofs.TwosComplement.{Within}
use Rattle.sym_objects.proofs.Halves.{AreBits, IsAhead, ahead_done, ahead_first, ahead_more}
use Rattle.sym_objects.proofs.numbers.bits_of_integer.Goals as goal

pub loop-init : goal.loop-init
loop-init g c =
    let e = c.constant_edge.ensures in
    let s = c.args.objs.now in
    let half = c.split-low.result.1 in
    let i_is : to_z w128 (of_z w128 c.args.i) ≡ c.args.i = search rules in
    let h_is : to_z w128 (of_z w128 half) ≡ half = search rules in
    let w : Within 127 c.args.i = record { least = omega (arith, ints, c.ranges.i.sfits); most = omega (arith, ints, c.ranges.i.sfits) } in
    subst (λ (z : ℤ). IsAhead g.B.Meaning s z 1 c.of-bits.result (to_z w128 (of_z w128 half))) (sym i_is)
    (subst (λ (z : ℤ). IsAhead g.B.Meaning s c.args.i 1 c.of-bits.result z) (sym h_is)
    (ahead_first g.B.Meaning s c.args.i half c.split-low.result.0 c.constant_edge.result c.of-bits.result w (c.split-low.ensures ∙ i_is) (record { is = e.edge; live = e.live; truth = e.truth }) c.of-bits.ensures))

pub loop-preserved : goal.loop-preserved
loop-preserved g c =
    let e = c.constant_edge-in-loop.ensures in
    let s = c.args.objs.now in
    let l = c.loop in
    let half = c.split-bit.result.1 in
    let h_is : to_z w128 (of_z w128 half) ≡ half = search rules in
    subst (λ (z : ℤ). IsAhead g.B.Meaning s (to_z w128 (of_z w128 c.args.i)) (l.counter + 1) c.push.new.self z) (sym h_is)
    (ahead_more g.B.Meaning s (to_z w128 (of_z w128 c.args.i)) _ half l.counter c.split-bit.result.0 c.constant_edge-in-loop.result l.bits c.push.new.self l.invariant c.loop-test.true c.split-bit.ensures (record { is = e.edge; live = e.live; truth = e.truth }) c.push.ensures)

pub push-requires : goal.push-requires
push-requires g c = omega (arith, c.loop.invariant.len)

pub push-requires-2 : goal.push-requires-2
push-requires-2 g c = omega (arith, c.loop.invariant.len)

pub returns : goal.returns
returns g c =
    let e = c.constant_edge-2.ensures in
    let s = c.args.objs.now in
    let l = c.loop in
    let i_is : to_z w128 (of_z w128 c.args.i) ≡ c.args.i = search rules in
    let all : AreBits g.B.Meaning s (to_z w128 (of_z w128 c.args.i)) c.push-2.new.self =
    ahead_done g.B.Meaning s (to_z w128 (of_z w128 c.args.i)) _ l.counter c.is_negative.result c.constant_edge-2.result l.bits c.push-2.new.self l.invariant (omega (arith, l.auto.counter-end)) c.is_negative.ensures.negative c.is_negative.ensures.other (record { is = e.edge; live = e.live; truth = e.truth }) c.push-2.ensures in
    record { most = all.most; edges = all.edges; constant = all.constant; value = λ a. all.value a ∙ i_is }
