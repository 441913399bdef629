use Rattle.std.proofs.Common.{◌≡◌, ◌∙◌, ap, sym, length, map, List, Some, arith}
use Rattle.std.specs.Option.{option_map}
use Rattle.std.specs.Vec.Iter.{into_iter_items}
use Rattle.gl_logic.specs.Wording.{all_meant}
use Rattle.gl_cases.specs.Parts.{CaseSeen, case_seen}
use Rattle.event_world.specs.FormsSeen.{case_form_seen}
use Rattle.event_world.specs.CasesMeant.{case_bound}
use Rattle.event_world.proofs.Cursors.{behind, meant_more}
use Rattle.event_world.proofs.cases.all_bound.Goals as goal

pub loop-case-preserved : goal.loop-case-preserved
loop-case-preserved c =
    let f = case_bound c.args.texts.now c.args.mark.now in
    let inv = c.loop-case.invariant in
    let rest = map case_form_seen (into_iter_items c.next.new.self) in
    let is = ap (map case_form_seen) c.in-Some.ensures.steps.0 in
    let meant : f (case_form_seen c.in-Some.case) ≡ Some (case_seen c.in-Some-2.bound) = sym c.in_ok-bound.ensures ∙ ap (option_map case_seen) c.in-Some-2.is in
    record {
      counted = let n = inv.counted in let m = ap length c.in-Some.ensures.steps.0 in omega (arith, n, m, c.in-Some.ensures.steps.1);
      left = ap (λ (l : List CaseSeen). behind l (all_meant f rest)) c.in_ok-push.ensures.ok
          ∙ (sym (meant_more f c.loop-case.all (map case_form_seen (into_iter_items c.loop-case.case-iterator)) rest (case_form_seen c.in-Some.case) is (case_seen c.in-Some-2.bound) meant) ∙ inv.left);
    }
