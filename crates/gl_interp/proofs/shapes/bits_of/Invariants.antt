use Rattle.std.proofs.Common.{◌≡◌, take}
use Rattle.gl_interp.specs.Shapes.{bits_over}
use Rattle.gl_interp.proofs.shapes.bits_of.Given as goal

abbrev pub invariant-loop-k : goal.invariant-loop-k
invariant-loop-k l = l.bits ≡ bits_over l.b l.edges (take l.k l.indices)
