use Rattle.std.proofs.Common.{◌≡◌, map, take, true}
use Rattle.shape_spec.specs.ItemsMeant.{have_count}
use Rattle.shape_spec.specs.Gives.{slotted_of}
use Rattle.shape_spec.proofs.item_form.have_count.Given as goal

abbrev pub invariant-loop-item : goal.invariant-loop-item
invariant-loop-item l = have_count l.count (map slotted_of (take l.item-index l.all)) ≡ true
