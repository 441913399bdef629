use Rattle.std.proofs.Common.{◌≡◌, ◌∙◌, ap, sym, suc, ◌+◌, drop, arith, true, false}
use Rattle.std.specs.List.{list_all}
use Rattle.shape_spec.specs.TheoremSeen.{theorem_seen}
use Rattle.event_world.specs.CasesMeant.{binds_its_own}
use Rattle.event_world.proofs.KeptNames.{all_next, all_not, both_false}
use Rattle.event_world.proofs.cases.are_bound.Goals as goal

pub returns-then-not-branch-2 : goal.returns-then-not-branch-2
returns-then-not-branch-2 c =
    let thms = c.args.thm.now.cases in
    let cover = binds_its_own (theorem_seen c.args.thm.now.cover) in
    let first : cover ≡ true = sym c.in_ok-binds_its_own.ensures ∙ c.if-not-branch.false in
    let here : binds_its_own (theorem_seen c.at.result.now) ≡ false = sym c.in_ok-binds_its_own-2.ensures ∙ c.if-not-branch-2.true in
    let none : list_all binds_its_own thms ≡ false = sym c.loop-i.invariant ∙ all_not binds_its_own thms c.loop-i.i (theorem_seen c.at.result.now) c.at.ensures here in
    sym (both_false cover (list_all binds_its_own thms) first none)

pub loop-i-preserved : goal.loop-i-preserved
loop-i-preserved c =
    let thms = c.args.thm.now.cases in
    let next : c.loop-i.i + 1 ≡ suc c.loop-i.i = omega arith in
    let here : binds_its_own (theorem_seen c.at.result.now) ≡ true = sym c.in_ok-binds_its_own-2.ensures ∙ c.if-not-branch-2.false in
    ap (λ n. list_all binds_its_own (drop n thms)) next ∙ (all_next binds_its_own thms c.loop-i.i (theorem_seen c.at.result.now) c.at.ensures here ∙ c.loop-i.invariant)
