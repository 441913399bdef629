use Rattle.std.proofs.Common.{◌≡◌, map, take}
use Rattle.gl_logic.specs.Assignments.{value_at}
use Rattle.shape_spec.specs.BindingOf.{bindings_of}
use Rattle.shape_spec.specs.InputMeant.{object_meant, truth_of}
use Rattle.shape_spec.proofs.binding_list.input_of.Given as goal

abbrev pub invariant-loop-binding : goal.invariant-loop-binding
invariant-loop-binding l = l.inputs ≡ map (λ p. (p.0, object_meant (truth_of l.b (value_at l.a)) p.1)) (bindings_of (take l.binding-index l.binding-items))
