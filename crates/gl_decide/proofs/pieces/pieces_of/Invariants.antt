use Rattle.std.proofs.Common.{◌*◌, ◌/◌}
use Rattle.gl_decide.specs.Pieces.{Follow}
use Rattle.gl_decide.proofs.pieces.pieces_of.Given as goal

abbrev pub invariant-loop-k : goal.invariant-loop-k
invariant-loop-k l = Follow 0 l.pieces.items (l.k * l.count / l.parts)
