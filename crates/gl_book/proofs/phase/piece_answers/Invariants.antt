use Rattle.std.proofs.Common.{◌-◌, take, drop}
use Rattle.gl_decide.specs.Bounds.{bounds_of}
use Rattle.gl_book.specs.Phases.{AreAnswered}
use Rattle.gl_book.specs.Tasks.{tasks_in}
use Rattle.gl_book.proofs.phase.piece_answers.Given as goal

abbrev pub invariant-loop-number : goal.invariant-loop-number
invariant-loop-number g l = AreAnswered (bounds_of l.limits) l.world (take (l.number - l.fn.piece.first) (drop l.fn.piece.first (tasks_in l.tasks))) l.answers.items
