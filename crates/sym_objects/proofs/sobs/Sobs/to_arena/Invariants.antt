use Rattle.std.proofs.Common.{◌+◌}
use Rattle.sym_objects.specs.Truths.{number_of}
use Rattle.sym_objects.specs.Walks.{focus_weight, frames_weight}
use Rattle.sym_objects.proofs.ToArena.{Placing}
use Rattle.sym_objects.proofs.sobs.Sobs.to_arena.Given as goal

abbrev pub invariant-loop-focus : goal.invariant-loop-focus
invariant-loop-focus g l = Placing g.B.Meaning l.self l.fn.s l.fn.arena l.arena l.frames l.focus l.memo

abbrev pub decreases-loop-focus : goal.decreases-loop-focus
decreases-loop-focus g l = focus_weight number_of l.focus + frames_weight number_of l.frames
