use Rattle.std.proofs.Common.{◌≡◌, ◌+◌, map, take, true}
use Rattle.std.specs.List.{list_all}
use Rattle.shape_spec.specs.Indices.{variables_of, width_of, IsBindings}
use Rattle.gl_logic.specs.Wording.{is_legal}
use Rattle.shape_spec.specs.ItemsMeant.{shape_at, places_of}
use Rattle.shape_spec.specs.Gives.{variable_of}
use Rattle.shape_spec.proofs.binding_form.add_places.Given as goal

abbrev pub invariant-loop-variable : goal.invariant-loop-variable
invariant-loop-variable l = record {
  so_far : l.all ≡ map (λ v. (v.0, shape_at v.1 (places_of v.0 l.whole.slots.items))) (map variable_of (take l.variable-index l.variable-items));
  proper : IsBindings l.all;
  left : l.left + width_of l.all ≡ 1024;
  legal : list_all (is_legal l.texts) (variables_of l.all) ≡ true;
  seen : l.seen ≡ variables_of l.all;
}
