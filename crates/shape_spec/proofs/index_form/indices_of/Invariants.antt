use Rattle.std.proofs.Common.{◌≡◌, ◌≤◌, length, reverse}
use Rattle.gl_logic.specs.Wording.{all_meant}
use Rattle.shape_spec.specs.Gives.{small_index}
use Rattle.shape_spec.proofs.InReverse.{left_of}
use Rattle.shape_spec.proofs.index_form.indices_of.Given as goal

abbrev pub invariant-loop-left : goal.invariant-loop-left
invariant-loop-left l = record {
  within : l.left ≤ length l.forms;
  so_far : all_meant small_index (reverse l.forms) ≡ left_of small_index l.forms l.indices.items l.left;
}

abbrev pub decreases-loop-left : goal.decreases-loop-left
decreases-loop-left l = l.left
