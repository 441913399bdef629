use Rattle.gl_interp.proofs.InputParts.{AreVariables}
use Rattle.gl_interp.proofs.inputs.symbolic.Given as goal

abbrev pub invariant-loop-k : goal.invariant-loop-k
invariant-loop-k g l = AreVariables g.B.Meaning l.fn.objs l.objs l.edges.items l.k
