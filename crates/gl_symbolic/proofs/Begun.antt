-- A machine that has not begun.
use Rattle.std.proofs.Common.{ℕ}
use Rattle.gl_logic.specs.Assignments.{value_at}
use Rattle.gl_logic.specs.IsTermOf.{IsTermOf}
use Rattle.gl_logic.specs.IsTotal.{IsTotal}
use Rattle.gl_logic.specs.WorldSeen.{WorldSeen}
use Rattle.lisp_eval.specs.MachineCalls.{HasTooManyConstants}
use Rattle.shape_spec.specs.declared.theorem.Part.TheVariants as part
use Rattle.shape_spec.specs.declared.theorem.Thm.{Thm}
use Rattle.gl_symbolic.specs.Decisions.{IsProper}
use Rattle.gl_symbolic.specs.Rooms.{IsUnplaced}
use Rattle.gl_symbolic.specs.Theorems.{input_under, term_at}
use Rattle.gl_symbolic.specs.declared.decision.Decision.{Decision}
use Rattle.gl_symbolic.specs.declared.decision.Decision.TheVariants as decision
use Rattle.gl_symbolic.proofs.Cells.{from_constants}

module _ (w : WorldSeen) (thm : Thm) (steps cells : ℕ) (total : IsTotal w.definitions) (of : IsTermOf w.definitions (term_at thm part.Hyp)) (many : HasTooManyConstants w cells) where
  pub unplaced_proper : (d : Decision) → IsUnplaced thm d → IsProper w steps cells thm d
  unplaced_proper (decision.Cells part.Hyp a) h = (h, from_constants w (input_under thm (value_at a)) (term_at thm part.Hyp) cells total of many)
  unplaced_proper decision.Memory h = tt
  unplaced_proper (decision.Cells part.Concl a) h = absurd h
  unplaced_proper decision.Proved h = absurd h
  unplaced_proper decision.Vacuous h = absurd h
  unplaced_proper (decision.Refuted a) h = absurd h
  unplaced_proper (decision.Clock p a) h = absurd h
  unplaced_proper (decision.Width p a) h = absurd h
  unplaced_proper (decision.Steps p a) h = absurd h
  unplaced_proper decision.Full h = absurd h
  unplaced_proper decision.Spent h = absurd h
