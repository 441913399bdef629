use Rattle.std.proofs.Common.{◌+◌}
use Rattle.sym_prims.specs.Frames.{focus_weight, frames_weight}
use Rattle.sym_prims.proofs.Running.{Running}
use Rattle.sym_prims.proofs.applying.run.Given as goal

abbrev pub invariant-loop-focus : goal.invariant-loop-focus
invariant-loop-focus g l = Running g.B.Meaning l.fn.prim l.fn.task l.fn.objs l.objs l.frames l.focus l.memo

abbrev pub decreases-loop-focus : goal.decreases-loop-focus
decreases-loop-focus g l = focus_weight l.focus + frames_weight l.frames
