use Rattle.std.proofs.Common.{◌≡◌, ◌∙◌, sym, ◌-◌, rules, arith, subst, ◌+ℤ◌}
use Rattle.gl_logic.specs.Assignments.{value_at}
use Rattle.gl_logic.specs.TwosComplement.{digit}
use Rattle.shape_spec.specs.InputMeant.{truth_in}
use Rattle.shape_spec.proofs.Integers.{from_more, from_half, IsHalf, integer_from_at}
use Rattle.shape_spec.proofs.objects.integer_from.Goals as goal

pub doubled-value-requires-clause-least : goal.doubled-value-requires-clause-least
doubled-value-requires-clause-least c =
    let h = from_half (truth_in c.args.sorted.now (value_at c.args.a.now)) c.args.indices.now c.loop-k.k (omega arith) (omega arith) (omega arith) in
    (subst IsHalf (sym (c.loop-k.invariant)) h).least

pub doubled-value-requires-clause-most : goal.doubled-value-requires-clause-most
doubled-value-requires-clause-most c =
    let h = from_half (truth_in c.args.sorted.now (value_at c.args.a.now)) c.args.indices.now c.loop-k.k (omega arith) (omega arith) (omega arith) in
    (subst IsHalf (sym (c.loop-k.invariant)) h).most

pub loop-k-preserved : goal.loop-k-preserved
loop-k-preserved c =
    let v = c.loop-k.invariant in
    let f = truth_in c.args.sorted.now (value_at c.args.a.now) in
    let m = from_more f c.args.indices.now (c.loop-k.k - 1) c.loop-k.k (omega arith) (omega arith) in
    let e : c.doubled-value.result ≡ integer_from_at f c.args.indices.now (c.loop-k.k - 1) =
    c.doubled-value.ensures ∙ ((λ i. digit (c.truth-in-loop-k.ensures i) +ℤ (v i +ℤ v i)) ∙ sym m) in
    search (rules, e)
