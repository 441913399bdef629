-- Machines that have begun, or have not.
use Rattle.std.proofs.Common.{◌≡◌, ◌≢◌, ◌<◌, refl, subst, ℕ, List, Result, Err, arith}
use Rattle.std.specs.List.{Contains}
use Rattle.std.proofs.lemmas.List.Elements.{All-contains}
use Rattle.gl_logic.specs.Object.{Object}
use Rattle.gl_logic.specs.IsTermOf.{IsTermOf}
use Rattle.gl_logic.specs.IsTotal.{IsTotal}
use Rattle.gl_logic.specs.CellCounts.{constant_cells}
use Rattle.gl_logic.specs.WorldSeen.{WorldSeen}
use Rattle.shape_spec.specs.InputMeant.{assignment_numbered}
use Rattle.shape_spec.specs.declared.theorem.Part.TheVariants as part
use Rattle.lisp_eval.specs.Machines.{MachineSeen}
use Rattle.lisp_eval.specs.MachineCalls.{BeginsWith, RefusesForCells}
use Rattle.lisp_eval.specs.declared.fault.EvalFault.{EvalFault}
use Rattle.lisp_eval.specs.declared.fault.EvalFault.TheVariants as fault
use Rattle.shape_spec.specs.TheoremSeen.{TheoremSeen}
use Rattle.gl_decide.specs.TheoremAt.{input_at}
use Rattle.gl_decide.specs.Scans.{HasCause, IsProperAmong}
use Rattle.gl_decide.specs.Trials.{IsReady}
use Rattle.gl_decide.specs.declared.scanned.Scan.{Scan}
use Rattle.gl_decide.specs.declared.scanned.Scan.TheVariants as scan
use Rattle.gl_decide.proofs.Causes.{from_constants}
use Rattle.gl_decide.proofs.Ranges.{none_yet}

pub ready : (w : WorldSeen) (thm : TheoremSeen) (old new : MachineSeen) → BeginsWith w thm.memoized old new → IsReady w thm new
ready w thm old new b = record { fits = b.fits; functions = b.functions; cells = λ y c. All-contains (Contains (constant_cells w)) new.arena.objects y b.cells c }

pub among_at : (w : WorldSeen) (thm : TheoremSeen) (s t l m first end : ℕ) (r : Scan) → s ≡ t → l ≡ m → IsProperAmong w s l thm first end r → IsProperAmong w t m thm first end r
among_at w thm s t l m first end r e f h = subst (λ (k : ℕ). IsProperAmong w t k thm first end r) f (subst (λ (k : ℕ). IsProperAmong w k l thm first end r) e h)

refusal : EvalFault → Result (Unit {0}) EvalFault
refusal f = Err f

module _ (w : WorldSeen) (thm : TheoremSeen) (steps cells : ℕ) (total : IsTotal w.definitions) (of : IsTermOf w.definitions thm.hyp) where
  begin_cause : (env : List (ℕ × Object)) (f : EvalFault) (r : Result (Unit {0}) EvalFault) → r ≡ Err f → f ≢ fault.Memory → RefusesForCells w cells r → HasCause w steps cells thm part.Hyp env f
  begin_cause env fault.Width r e n h = absurd (h.no_width (rw e refl))
  begin_cause env fault.Steps r e n h = absurd (h.no_steps (rw e refl))
  begin_cause env fault.Cells r e n h = from_constants w env thm.hyp cells total of (h.cells (rw e refl))
  begin_cause env fault.Memory r e n h = absurd (n refl)

  pub not_begun : (first end : ℕ) (f : EvalFault) (r : Result (Unit {0}) EvalFault) → first < end → r ≡ Err f → f ≢ fault.Memory → RefusesForCells w cells r → IsProperAmong w steps cells thm first end (scan.Stopped first part.Hyp f)
  not_begun first end f r l e n h = (omega arith, l, (assignment_numbered first, refl), begin_cause (input_at thm first) f r e n h, none_yet w thm first)
