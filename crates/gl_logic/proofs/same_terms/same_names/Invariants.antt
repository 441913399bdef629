use Rattle.std.proofs.Common.{◌≡◌, take}
use Rattle.gl_logic.proofs.same_terms.same_names.Given as goal

abbrev pub invariant-loop-i : goal.invariant-loop-i
invariant-loop-i l = take l.i l.us ≡ take l.i l.vs
