use Rattle.std.proofs.Common.{◌≡◌, take}
use Rattle.std.specs.List.{flat_map}
use Rattle.gl_book.specs.Phases.{jobs_of}
use Rattle.gl_book.specs.Tasks.{tasks_in, tasks_of}
use Rattle.gl_book.proofs.task.tasks_of.Given as goal

abbrev pub invariant-loop-i : goal.invariant-loop-i
invariant-loop-i l = tasks_in l.tasks ≡ flat_map tasks_of (take l.i (jobs_of l.waiting))
