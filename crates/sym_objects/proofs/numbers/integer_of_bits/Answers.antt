use Rattle.std.proofs.Common.{rules, ◌≡◌, ◌∙◌, ◌-◌, false, sym, ap, arith}
use mir.Val.{to_z, of_z}
use mir.Syntax.{w128}
use Rattle.bfr_store.specs.declared.edge.Edge.{Edge}
use Rattle.sym_objects.specs.Seen.{is_constant_edge}
use Rattle.sym_objects.proofs.Halves.{all_at, from_last, from_next, from_place, next_fits}
use Rattle.sym_objects.proofs.numbers.integer_of_bits.Goals as goal

pub is_true-requires : goal.is_true-requires
is_true-requires g c = all_at (is_constant_edge g.B.Meaning) c.args.bits.now (c.len-last.result - 1) c.at.result c.requires.constant c.at.ensures

pub is_true-requires-in-loop-k : goal.is_true-requires-in-loop-k
is_true-requires-in-loop-k g c = all_at (is_constant_edge g.B.Meaning) c.args.bits.now (c.loop-k.k - 1) c.at-in-loop-k.result c.requires.constant c.at-in-loop-k.ensures

pub doubled-value-requires-clause-least : goal.doubled-value-requires-clause-least
doubled-value-requires-clause-least g c =
    let l = c.loop-k in
    (next_fits (λ e. g.B.Meaning.truth_of c.args.objs.now.store e (λ n. false)) c.args.bits.now l.k c.at-in-loop-k.result c.is_true-in-loop-k.result _ c.loop-k-test.true l.invariant.within c.requires.most c.at-in-loop-k.ensures (c.is_true-in-loop-k.ensures (λ n. false)) (l.invariant.value (λ n. false))).least

pub doubled-value-requires-clause-most : goal.doubled-value-requires-clause-most
doubled-value-requires-clause-most g c =
    let l = c.loop-k in
    (next_fits (λ e. g.B.Meaning.truth_of c.args.objs.now.store e (λ n. false)) c.args.bits.now l.k c.at-in-loop-k.result c.is_true-in-loop-k.result _ c.loop-k-test.true l.invariant.within c.requires.most c.at-in-loop-k.ensures (c.is_true-in-loop-k.ensures (λ n. false)) (l.invariant.value (λ n. false))).most

pub loop-k-init : goal.loop-k-init
loop-k-init g c =
    let n = c.len-last.ensures in
    let v = c.integer_of_sign-value.result in
    let v_is : to_z w128 (of_z w128 v) ≡ v = search rules in
    record {
      value = λ a. from_last (λ e. g.B.Meaning.truth_of c.args.objs.now.store e a) c.args.bits.now c.len-last.result c.at.result c.is_true.result n.len (omega (arith, n.some)) c.at.ensures (c.is_true.ensures a) ∙ (sym c.integer_of_sign-value.ensures ∙ sym v_is);
      within = omega (arith, n.len, n.some);
    }

pub loop-k-preserved : goal.loop-k-preserved
loop-k-preserved g c =
    let l = c.loop-k in
    let v = c.doubled-value.result in
    let v_is : to_z w128 (of_z w128 v) ≡ v = search rules in
    record {
      value = λ a. from_next (λ e. g.B.Meaning.truth_of c.args.objs.now.store e a) c.args.bits.now l.k c.at-in-loop-k.result c.is_true-in-loop-k.result _ c.loop-k-test.true l.invariant.within c.at-in-loop-k.ensures (c.is_true-in-loop-k.ensures a) (l.invariant.value a)
          ∙ (sym c.doubled-value.ensures ∙ sym v_is);
      within = omega (arith, l.invariant.within);
    }

pub returns : goal.returns
returns g c a =
    let none : c.loop-k.k ≡ 0 = omega arith in
    ap (λ k. from_place (λ (e : Edge). g.B.Meaning.truth_of c.args.objs.now.store e a) c.args.bits.now k) (sym none) ∙ c.loop-k.invariant.value a
