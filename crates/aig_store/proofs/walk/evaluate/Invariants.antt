use Rattle.std.proofs.Common.{◌≤◌, vec_capacity}
use Rattle.gl_logic.specs.Assignments.{value_at}
use Rattle.aig_store.specs.Walks.{IsWalk, work}
use Rattle.aig_store.proofs.walk.evaluate.Given as goal

abbrev pub invariant-loop-marks : goal.invariant-loop-marks
invariant-loop-marks l = record {
  walk : IsWalk l.nodes (value_at l.a) l.call l.root l.marks.items l.stack.items;
  marks : vec_capacity l.fn.marks ≤ vec_capacity l.marks;
  room : vec_capacity l.fn.stack ≤ vec_capacity l.stack;
}

abbrev pub decreases-loop-marks : goal.decreases-loop-marks
decreases-loop-marks l = work l.call l.marks.items l.stack.items
