use Rattle.std.proofs.Common.{◌≡◌, map}
use Rattle.std.specs.List.{flat_map, range_with_len}
use Rattle.shape_spec.specs.ItemsMeant.{slots_at}
use Rattle.shape_spec.specs.Gives.{slotted_of}
use Rattle.shape_spec.proofs.item_form.mixed.Given as goal

abbrev pub invariant-loop-k : goal.invariant-loop-k
invariant-loop-k l = l.slots.items ≡ flat_map (slots_at (map slotted_of l.all)) (range_with_len 0 l.k)
