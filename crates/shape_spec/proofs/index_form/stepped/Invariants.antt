use Rattle.std.proofs.Common.{◌≡◌, ◌++◌, ◌-◌, true}
use Rattle.shape_spec.specs.ShapeMeant.{stepped}
use Rattle.shape_spec.specs.BindingsMeant.{are_below}
use Rattle.shape_spec.proofs.index_form.stepped.Given as goal

abbrev pub invariant-loop : goal.invariant-loop
invariant-loop l = record {
  same : l.indices.items ++ stepped l.next l.step (l.count - l.counter) ≡ stepped l.start l.step l.count;
  below : are_below l.indices.items ≡ true;
}
