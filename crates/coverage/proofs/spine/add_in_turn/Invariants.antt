use Rattle.std.proofs.Common.{◌≡◌, ◌≤◌, ◌++◌, map, reverse, drop, length}
use Rattle.shape_spec.specs.ShapeOf.{shape_of}
use Rattle.coverage.proofs.spine.add_in_turn.Given as goal

abbrev pub invariant-loop-left : goal.invariant-loop-left
invariant-loop-left l = record {
  within : l.left ≤ length l.shapes;
  done : map (λ s. shape_of s.now) l.all.items ≡ map (λ s. shape_of s.now) l.initial.all.items ++ reverse (map shape_of (drop l.left l.shapes));
}

abbrev pub decreases-loop-left : goal.decreases-loop-left
decreases-loop-left l = l.left
