use Rattle.std.proofs.Common.{◌≡◌, map, take}
use Rattle.std.specs.List.{flat_map}
use Rattle.shape_spec.specs.Gives.{slotted_of}
use Rattle.shape_spec.proofs.item_form.sequence.Given as goal

abbrev pub invariant-loop-item : goal.invariant-loop-item
invariant-loop-item l = l.slots.items ≡ flat_map (λ i. i.slots) (map slotted_of (take l.item-index l.all))
