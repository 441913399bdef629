use Rattle.std.proofs.Common.{◌≡◌, drop}
use Rattle.gl_logic.specs.TermOf.{terms_of}
use Rattle.gl_logic.specs.FreeVariables.{is_free_in_some}
use Rattle.coverage.proofs.free.+free.Given as goal

abbrev pub invariant-is_free_in_any-loop-term : goal.invariant-is_free_in_any-loop-term
invariant-is_free_in_any-loop-term l = is_free_in_some (terms_of (drop l.term-index l.terms)) l.variable.number ≡ is_free_in_some (terms_of l.terms) l.variable.number
