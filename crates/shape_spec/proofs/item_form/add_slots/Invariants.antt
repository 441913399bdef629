use Rattle.std.proofs.Common.{◌≡◌, ◌++◌, map, take}
use Rattle.shape_spec.specs.ItemsMeant.{slots_at}
use Rattle.shape_spec.specs.Gives.{slotted_of}
use Rattle.shape_spec.proofs.item_form.add_slots.Given as goal

abbrev pub invariant-loop-item : goal.invariant-loop-item
invariant-loop-item l = l.slots.items ≡ l.fn.slots.items ++ slots_at (map slotted_of (take l.item-index l.all)) l.k
