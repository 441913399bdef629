use Rattle.std.proofs.Common.{◌≡◌, true, false, rules}
use Rattle.gl_decide.specs.Bounds.{bounds_of}
use Rattle.event_world.specs.Seen.{event_seen}
use Rattle.book_state.specs.States.{is_job}
use Rattle.gl_book.specs.Phases.{jobs_of}
use Rattle.gl_book.proofs.Puts.{ok_then}
use Rattle.gl_book.proofs.Staying.{stays_behind}
use Rattle.gl_book.proofs.Ways.{follows_past, waits_past}
use Rattle.gl_book.proofs.walk.take_along.Goals as goal

pub returns-then-is_job : goal.returns-then-is_job
returns-then-is_job g c =
    let e = event_seen c.args.event in
    let job : is_job e ≡ true = search rules in
    ok_then c.wait.result c.wait.ensures
    (λ h written stalls. waits_past c.args.texts.now (bounds_of c.args.run.now.limits.now) c.args.run.now.last_only c.args.form.now e c.args.progress.now c.requires.next.meant written stalls c.wait.new.progress job c.requires.next.answerable h)

pub returns-else-is_job : goal.returns-else-is_job
returns-else-is_job g c =
    let e = event_seen c.args.event in
    let old = c.args.progress.now in
    let other : is_job e ≡ false = search rules in
    let k = stays_behind (jobs_of old.waiting) e c.requires.stays other in
    ok_then c.follow.result c.follow.ensures
    (λ h written stalls. follows_past c.args.texts.now (bounds_of c.args.run.now.limits.now) c.args.run.now.last_only c.args.form.now e old c.requires.next.meant written stalls c.follow.new.progress k.0 other k.1 h)
