use Rattle.std.proofs.Common.{◌+◌, ◌≤◌, sym, subst, length, List, take, arith}
use Rattle.shape_spec.specs.TheoremSeen.{theorem_seen}
use Rattle.gl_decide.specs.Bounds.{bounds_of}
use Rattle.gl_decide.specs.declared.verdict.Verdict.{Verdict}
use Rattle.gl_book.specs.Cases.{AreProperVerdicts}
use Rattle.gl_book.proofs.PartsDecided.{verdicts_all, verdicts_next}
use Rattle.gl_book.proofs.decided.cases_decided.Goals as goal

pub loop-i-preserved : goal.loop-i-preserved
loop-i-preserved g c =
    let bounds = bounds_of c.args.limits.now in
    let w = c.args.world.now in
    let thms = c.args.thm.now.cases in
    subst (λ (vs : List Verdict). AreProperVerdicts bounds w (take (c.loop-i.i + 1) thms) vs) (sym c.in_ok-push.ensures.items)
    (verdicts_next bounds w thms c.loop-i.i c.loop-i.cases.items (theorem_seen c.at.result.now) c.decided_unless-verdict.result c.at.ensures c.loop-i.invariant c.decided_unless-verdict.ensures)

pub returns : goal.returns
returns g c =
    let past : length c.args.thm.now.cases ≤ c.loop-i.i = omega (arith, c.loop-i-test.false, c.len-i-end.ensures) in
    verdicts_all (bounds_of c.args.limits.now) c.args.world.now c.args.thm.now.cases c.loop-i.i c.loop-i.cases.items past c.loop-i.invariant
