use Rattle.std.proofs.Common.{◌≡◌, ◌≤◌, length, drop, reverse}
use Rattle.event_world.specs.PreludeRows.{symbols_among}
use Rattle.event_world.proofs.ground_world.names_in.Given as goal

abbrev pub invariant-loop-left : goal.invariant-loop-left
invariant-loop-left l = record {
  within : l.left ≤ length l.elements;
  names : l.names ≡ symbols_among (reverse (drop l.left l.elements));
}

abbrev pub decreases-loop-left : goal.decreases-loop-left
decreases-loop-left l = l.left
