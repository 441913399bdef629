use Rattle.std.proofs.Common.{◌≡◌, length}
use Rattle.shape_spec.specs.Indices.{width_of}
use Rattle.gl_interp.specs.Causes.{Rests}
use Rattle.gl_interp.proofs.InputParts.{IsInput}
use Rattle.gl_interp.proofs.inputs.symbolic_over.Given as goal

abbrev pub invariant-loop-i : goal.invariant-loop-i
invariant-loop-i g l = record {
  input : IsInput g.B.Meaning l.fn.objs l.objs l.b l.edges l.env l.i;
  found : length l.found ≡ width_of l.b;
  rests : Rests l.fn.machine l.machine;
}
