use Rattle.std.proofs.Common.{◌≡◌, map, take}
use Rattle.shape_spec.specs.ItemsMeant.{all_variables}
use Rattle.shape_spec.specs.Gives.{slotted_of, variable_of}
use Rattle.shape_spec.proofs.item_form.variables_of.Given as goal

abbrev pub invariant-loop-item : goal.invariant-loop-item
invariant-loop-item l = map variable_of l.variables.items ≡ all_variables (map slotted_of (take l.item-index l.all))
