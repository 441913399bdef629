use Rattle.std.proofs.Common.{subst}
use Rattle.std.specs.Prelude.{IfOk}
use Rattle.event_world.specs.NextState.{BookState}
use Rattle.event_world.specs.Seen.{event_seen}
use Rattle.event_world.proofs.SuitedEvents.{given_has}
use Rattle.book_state.specs.Answerable.{IsAnswerable}
use Rattle.book_state.proofs.Places.{answerable}
use Rattle.book_state.proofs.state.State.event.Goals as goal

pub returns-clause-answerable : goal.returns-clause-answerable
returns-clause-answerable c =
    let w = c.self.inside.world in
    let kept = c.self.inside.memoized in
    subst (λ (s : BookState). IfOk c.event_of.result (λ e. IsAnswerable s.world.definitions s.memoized (event_seen e))) c.self.view_is
    (given_has event_seen _ c.event_of.result (λ e. IsAnswerable w.definitions kept e) (λ e h. answerable c.event_of.new.texts w c.self.inside.mode kept c.args.form.now e c.self.invariant.1 h) c.event_of.ensures.meant)
