use Rattle.std.proofs.Common.{◌≡◌, drop}
use Rattle.gl_logic.specs.TermOf.{terms_of}
use Rattle.gl_logic.specs.Steps.{actual_of}
use Rattle.admission.proofs.actuals.actual.Given as goal

abbrev pub invariant-loop-i : goal.invariant-loop-i
invariant-loop-i l = actual_of (drop l.i l.formals) (terms_of (drop l.i l.actuals)) l.w.number ≡ actual_of l.formals (terms_of l.actuals) l.w.number
