use Rattle.std.proofs.Common.{take}
use Rattle.std.specs.List.{All}
use Rattle.sym_objects.specs.Seen.{IsConstant}
use Rattle.gl_interp.proofs.calls.are_constant.Given as goal

abbrev pub invariant-loop-x : goal.invariant-loop-x
invariant-loop-x g l = All (IsConstant g.B.Meaning l.objs) (take l.x-index l.xs)
