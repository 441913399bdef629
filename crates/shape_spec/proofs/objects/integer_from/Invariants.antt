use Rattle.std.proofs.Common.{◌≡◌, map, drop}
use Rattle.gl_logic.specs.Assignments.{value_at}
use Rattle.gl_logic.specs.TwosComplement.{integer_of}
use Rattle.shape_spec.specs.InputMeant.{truth_in}
use Rattle.shape_spec.proofs.objects.integer_from.Given as goal

abbrev pub invariant-loop-k : goal.invariant-loop-k
invariant-loop-k l = l.value ≡ integer_of (map (truth_in l.sorted (value_at l.a)) (drop l.k l.indices))
