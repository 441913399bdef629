use Rattle.std.proofs.Common.{◌≡◌, take}
use Rattle.gl_cases.proofs.functions.copied_functions.Given as goal

abbrev pub invariant-loop-i : goal.invariant-loop-i
invariant-loop-i l = l.all ≡ take l.i l.functions
