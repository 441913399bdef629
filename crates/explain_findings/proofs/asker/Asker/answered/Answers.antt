use Rattle.std.proofs.Common.{subst}
use Rattle.std.specs.Prelude.{IfSome}
use Rattle.event_world.specs.Seen.{event_seen}
use Rattle.book_state.specs.Answerable.{IsAnswerable}
use Rattle.explain_findings.proofs.asker.Asker.answered.Goals as goal

pub answer_of-answer-requires-after_bounds : goal.answer_of-answer-requires-after_bounds
answer_of-answer-requires-after_bounds g c κs within = rw (c.world-world.ensures.world, c.memoized-memoized.ensures.memoized) (c.in_mode-event.ensures.answerable _ _ (subst (λ o. IfSome o (λ e. IsAnswerable c.args.self.now.state.now.world.definitions c.args.self.now.state.now.memoized (event_seen e))) c.in-Some.is c.in_ok-event.ensures.answerable))
