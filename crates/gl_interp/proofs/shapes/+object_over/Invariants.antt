use Rattle.std.proofs.Common.{◌≡◌, ℕ, Bool, map, drop, length}
use Rattle.gl_logic.specs.Lists.{conses}
use Rattle.shape_spec.specs.Indices.{indices_in, indices_of}
use Rattle.shape_spec.specs.InputMeant.{object_meant}
use Rattle.shape_spec.specs.ShapeOf.{shape_of}
use Rattle.shape_spec.proofs.Weights.{weight}
use Rattle.sym_objects.specs.Keeps.{Keeps}
use Rattle.sym_objects.specs.Seen.{IsLive, stands_for}
use Rattle.gl_interp.specs.Causes.{Rests}
use Rattle.gl_interp.specs.Shapes.{SetsOnly, holds_over}
use Rattle.gl_interp.proofs.shapes.+object_over.Given as goal

abbrev pub invariant-loop-element : goal.invariant-loop-element
invariant-loop-element g l = record {
  keeps : Keeps g.B.Meaning l.fn.objs l.objs;
  live : IsLive l.objs l.all;
  means : (a : ℕ → Bool) → let obj = object_meant (holds_over g.B.Meaning l.fn.objs.store l.b l.edges a) in
      conses (map obj (map shape_of (drop l.element-index l.element-items))) (stands_for g.B.Meaning l.objs l.all a) ≡ conses (map obj (map shape_of l.element-items)) (stands_for g.B.Meaning l.initial.objs l.initial.all a);
  found : length l.found ≡ length l.fn.found;
  others : SetsOnly (indices_of l.b) (indices_in (shape_of l.fn.shape)) l.fn.found l.found;
  rests : Rests l.fn.machine l.machine;
}

abbrev pub decreases-object_over : goal.decreases-object_over
decreases-object_over g l = weight l.shape.now
