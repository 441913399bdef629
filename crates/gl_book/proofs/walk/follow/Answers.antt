use Rattle.std.proofs.Common.{◌∙◌, ap, refl}
use Rattle.event_world.specs.NextState.{next_state}
use Rattle.event_world.specs.Seen.{event_seen}
use Rattle.gl_book.proofs.Puts.{ok_then}
use Rattle.gl_book.proofs.walk.follow.Goals as goal

pub returns-in-Ok : goal.returns-in-Ok
returns-in-Ok g c =
    ok_then c.take.result c.take.ensures (λ h. record { put = c.in-Ok.ensures; state = h ∙ ap (next_state c.args.progress.now.state c.args.form.now.tree (event_seen c.args.event)) c.nil.ensures; counts = refl })
