use Rattle.std.proofs.Common.{◌≡◌, map, drop}
use Rattle.gl_logic.specs.Assignments.{value_at}
use Rattle.gl_logic.specs.Lists.{conses}
use Rattle.shape_spec.specs.ShapeOf.{shape_of}
use Rattle.shape_spec.specs.InputMeant.{object_meant, truth_in}
use Rattle.shape_spec.proofs.Weights.{weight}
use Rattle.shape_spec.proofs.objects.+object_of.Given as goal

abbrev pub invariant-loop-element : goal.invariant-loop-element
invariant-loop-element l =
    let obj = object_meant (truth_in l.sorted (value_at l.a)) in
    conses (map obj (map shape_of (drop l.element-index l.element-items))) l.all ≡ conses (map obj (map shape_of l.element-items)) l.initial.all

abbrev pub decreases-object_of : goal.decreases-object_of
decreases-object_of l = weight l.shape.now
