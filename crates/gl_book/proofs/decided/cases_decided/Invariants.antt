use Rattle.std.proofs.Common.{take}
use Rattle.gl_decide.specs.Bounds.{bounds_of}
use Rattle.gl_book.specs.Cases.{AreProperVerdicts}
use Rattle.gl_book.proofs.decided.cases_decided.Given as goal

abbrev pub invariant-loop-i : goal.invariant-loop-i
invariant-loop-i g l = AreProperVerdicts (bounds_of l.limits) l.world (take l.i l.thm.cases) l.cases.items
