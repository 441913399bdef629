use Rattle.std.proofs.Common.{◌≡◌, ◌∷◌, ◌++◌, take}
use Rattle.event_world.specs.EventSeen.{Theorem}
use Rattle.shape_spec.specs.TheoremSeen.{theorem_seen}
use Rattle.gl_book.specs.Phases.{new_job}
use Rattle.gl_book.specs.Tasks.{tasks_in, theorem_tasks}
use Rattle.gl_book.proofs.task.Tasks.add.Given as goal

abbrev pub invariant-loop-i : goal.invariant-loop-i
invariant-loop-i l = tasks_in l.self ≡ tasks_in l.fn.self ++ new_job (Theorem (theorem_seen l.thm.cover)) l.memoized ∷ theorem_tasks l.memoized (take l.i l.thm.cases)
