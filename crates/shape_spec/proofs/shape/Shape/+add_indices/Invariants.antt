use Rattle.std.proofs.Common.{◌≡◌, ◌≤◌, ◌++◌, length, drop}
use Rattle.shape_spec.proofs.Conses.{front_indices}
use Rattle.shape_spec.proofs.shape.Shape.+add_indices.Given as goal

abbrev pub invariant-loop-left : goal.invariant-loop-left
invariant-loop-left l = record {
  within : l.left ≤ length l.elements.items;
  so_far : l.all.items ≡ l.fn.all.items ++ front_indices (drop l.left l.elements.items);
}

abbrev pub decreases-loop-left : goal.decreases-loop-left
decreases-loop-left l = l.left
