use Rattle.std.proofs.Common.{◌∙◌, ap, sym, subst, length, All}
use Rattle.gl_decide.specs.Bounds.{bounds_of}
use Rattle.gl_book.specs.Phases.{CanBeAnswered, jobs_of}
use Rattle.gl_logic.specs.WorldSeen.{WorldSeen}
use Rattle.gl_book.specs.declared.waiting.Waiting.{Waiting}
use Rattle.gl_book.proofs.Staying.{nothing_ended}
use Rattle.gl_book.proofs.Waited.{as_many}
use Rattle.gl_book.proofs.ending.end_phase.Goals as goal

pub returns-in_default-clause-front : goal.returns-in_default-clause-front
returns-in_default-clause-front g c =
    nothing_ended c.args.texts.now (bounds_of c.args.run.now.limits.now) c.args.run.now.last_only c.args.progress.now (g.O.Observer.written c.args.out.now) (g.O.Observer.stalls c.args.out.now) c.requires.ready

pub put_answers-requires-clause-many : goal.put_answers-requires-clause-many
put_answers-requires-clause-many g c κs within =
    as_many c.args.texts.now (bounds_of c.args.run.now.limits.now) c.args.progress.now.state.world (jobs_of c.args.progress.now.waiting) c.in-Ok.answers.items c.in-Ok.ensures ∙ ap (λ w. length (jobs_of w)) (sym c.replace-waiting.ensures.value)

pub put_answers-requires-clause-ready : goal.put_answers-requires-clause-ready
put_answers-requires-clause-ready g c κs within =
    subst (λ (w : WorldSeen). All (CanBeAnswered w.definitions) (jobs_of c.replace-waiting.result)) (sym c.world.ensures.world)
    (subst (λ (w : Waiting). All (CanBeAnswered c.args.progress.now.state.world.definitions) (jobs_of w)) (sym c.replace-waiting.ensures.value) c.requires.ready)
