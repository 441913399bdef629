use Rattle.std.proofs.Common.{◌≡◌, ℕ, ◌+◌, ◌-◌, ◌<◌, ◌≤◌, Bool, cond, not, List, length, take, map, pos, ◌-ℤ◌, int_lt, arith, refl, ap, ◌∙◌, sym}
use Rattle.std.proofs.lemmas.List.{take-map}
use Rattle.bfr_store.specs.declared.edge.Edge.{Edge}
use Rattle.gl_logic.specs.TwosComplement.{integer_of}
use Rattle.sym_bits.specs.Integers.{AllLive, bits_under, integer_under}
use Rattle.sym_bits.proofs.Calls.{bits_length, integer_kept}
use Rattle.sym_bits.proofs.Columns.{shifted_none}
use Rattle.sym_bits.proofs.Halving.{sign_bit}
use Rattle.sym_bits.proofs.Rests.{below_list, turn_step}
use Rattle.sym_bits.proofs.division.turn.Goals as goal

pub returns-clause-value : goal.returns-clause-value
returns-clause-value g c x least most =
    let m = g.B.Meaning in
    let start = c.args.store.now in
    let first = c.subtract.new.store in
    let last = c.select.new.store in
    let trial = c.in_ok-trial.ensures.makes in
    let left = c.in_ok-left.ensures.makes in
    let vs = c.push_below-dividend.result in
    let ts = c.in_ok-trial.trial in
    let ds = c.args.divisor.now in
    let v = integer_under m start vs x in
    let d = integer_under m start ds x in
    let t = integer_under m first ts x in
    let n = bits_length m first ts x in
    let width_is : c.len-width.result ≡ length (bits_under m start ds x) = omega (arith, c.len-width.ensures.len, bits_length m start ds x) in
    let cut = λ (es : List Edge). λ (whole : List Edge). λ (is : es ≡ take c.len-width.result whole).
    ap (λ fs. integer_under m first fs x) (is ∙ ap (λ k. take k whole) width_is) ∙ ap integer_of (sym (take-map (λ e. m.truth_of first e x) (length (bits_under m start ds x)) whole)) in
    turn_step v d t (integer_under m start c.args.rest.now x) (integer_under m first c.lowest-whole.result x) (integer_under m first c.lowest-less.result x) _ _ (m.truth_of first c.bit-is_less.result x) _
    (c.push_below-dividend.ensures.value x) least most (trial.value x)
    (λ h k. cut c.lowest-whole.result vs c.lowest-whole.ensures ∙ below_list (bits_under m start ds x) (bits_under m first vs x) v h k (integer_kept m start first trial.keeps vs x c.push_below-dividend.ensures.live))
    (λ h k. cut c.lowest-less.result ts c.lowest-less.ensures ∙ below_list (bits_under m start ds x) (bits_under m first ts x) t h k refl)
    (c.bit-is_less.ensures.truth x ∙ (sign_bit (bits_under m first ts x) (c.len.result - 1) (omega (arith, n, c.len.ensures.len, c.len.ensures.some)) (omega (arith, n, c.len.ensures.len, c.len.ensures.some)) ∙ ap (λ z. int_lt z (pos 0)) (shifted_none (bits_under m first ts x))))
    (left.value x)
    (c.not.ensures.truth x ∙ ap not (left.keeps.same c.bit-is_less.result x c.bit-is_less.ensures.live))
