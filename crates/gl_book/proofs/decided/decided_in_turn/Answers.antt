use Rattle.std.proofs.lemmas.Result.{IfOk-weaker}
use Rattle.gl_cases.specs.ParamMade.{param_seen}
use Rattle.gl_decide.specs.Bounds.{bounds_of}
use Rattle.gl_book.proofs.PartsDecided.{all_decide, few_verdicts}
use Rattle.gl_book.proofs.decided.decided_in_turn.Goals as goal

pub whole_of-requires : goal.whole_of-requires
whole_of-requires g c = few_verdicts (bounds_of c.args.limits.now) c.args.world.now c.args.thm.now.cases c.in-Ok.cases.items c.requires.few c.in-Ok.ensures

pub returns-in-Ok : goal.returns-in-Ok
returns-in-Ok g c =
    IfOk-weaker c.whole_of.result _ _ (λ v comes. all_decide (bounds_of c.args.limits.now) c.args.world.now (param_seen c.args.thm.now) _ c.in-Ok.cases.items v c.requires.parts c.decided-cover.ensures c.in-Ok.ensures comes) c.whole_of.ensures
