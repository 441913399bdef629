use Rattle.std.proofs.Common.{◌≡◌, map, take}
use Rattle.gl_logic.specs.TermOf.{term_of}
use Rattle.gl_logic.proofs.same_terms.+same.Given as goal

abbrev pub invariant-all_same-loop-i : goal.invariant-all_same-loop-i
invariant-all_same-loop-i l = map term_of (take l.i l.xs) ≡ map term_of (take l.i l.ys)
