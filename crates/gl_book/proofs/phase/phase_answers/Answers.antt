use Rattle.std.proofs.Common.{sym, subst, List, All}
use Rattle.gl_book.specs.Phases.{JobSeen, CanBeAnswered, jobs_of}
use Rattle.gl_book.proofs.Gathered.{tasks_can}
use Rattle.gl_book.proofs.phase.phase_answers.Goals as goal

pub tasks_answers-requires-after_bounds : goal.tasks_answers-requires-after_bounds
tasks_answers-requires-after_bounds g c κs within =
    let definitions = c.args.world.now.definitions in
    subst (λ (ts : List JobSeen). All (CanBeAnswered definitions) ts) (sym c.in_ok-tasks.ensures) (tasks_can definitions (jobs_of c.args.waiting.now) c.requires)
