use Rattle.std.proofs.Common.{◌∙◌, ◌++◌, ◌∷◌, [], ap, refl}
use Rattle.event_world.specs.Seen.{event_seen}
use Rattle.gl_book.specs.Phases.{jobs_of, new_job}
use Rattle.gl_book.proofs.Puts.{ok_then}
use Rattle.gl_book.proofs.Staying.{job_keeps_functions}
use Rattle.gl_book.proofs.walk.wait.Goals as goal

pub returns-in-Ok : goal.returns-in-Ok
returns-in-Ok c =
    let e = event_seen c.args.event in
    let functions = c.memoized.ensures.memoized ∙ (ap (λ s. s.memoized) c.in-Ok.ensures.ok ∙ job_keeps_functions c.args.progress.now.state c.args.form.now.tree e c.requires.job) in
    ok_then c.push.result c.push.ensures.ok (λ h. record {
      state = c.in-Ok.ensures.ok;
      waiting = h ∙ ap (λ m. jobs_of c.args.progress.now.waiting ++ new_job e m ∷ []) functions;
      counts = refl;
    })
