-- Two proper verdicts on one theorem agree.
use Rattle.std.proofs.Common.{◌≡◌, ◌∙◌, sym, ℕ, Bool, List, Some, None, arith, inl, inr}
use Rattle.std.proofs.lemmas.Bool.{cases_order}
use Rattle.gl_logic.specs.Object.{Object, nil}
use Rattle.gl_logic.specs.Evaluate.{HasValue}
use Rattle.gl_logic.specs.WorldSeen.{WorldSeen}
use Rattle.gl_logic.proofs.Walks.{value_unique}
use Rattle.shape_spec.specs.Theorems.{IsMet, Holds}
use Rattle.coverage.specs.Covered.{first_uncovered}
use Rattle.gl_decide.specs.Bounds.{Bounds}
use Rattle.shape_spec.specs.TheoremSeen.{TheoremSeen}
use Rattle.gl_decide.specs.Scans.{IsProperScan}
use Rattle.gl_decide.specs.Verdicts.{IsCovered, IsLeastRefuting, IsProperVerdict}
use Rattle.gl_decide.specs.Agreement.{Agree}
use Rattle.gl_decide.specs.declared.scanned.Scan.TheVariants as scan
use Rattle.gl_decide.specs.declared.verdict.Verdict.{Verdict}
use Rattle.gl_decide.specs.declared.verdict.Verdict.TheVariants.{Proved, Vacuous, Refuted, Uncovered}

module _ (w : WorldSeen) (bounds : Bounds) (thm : TheoremSeen) where
  -- what holds is not refuted
  unrefuted : (env : List (ℕ × Object)) → Holds w.definitions thm.hyp thm.concl → IsMet w.definitions thm.hyp env → HasValue w.definitions env thm.concl nil → ⊥
  unrefuted env h m n = let c = h env m in c.2 (value_unique w.definitions env thm.concl c.0 nil c.1 n)

  uncovered : (v : ℕ) → IsCovered thm → first_uncovered thm.hyp thm.concl thm.bindings ≡ Some v → ⊥
  uncovered v c u = let e : None ≡ Some v = sym c ∙ u in absurd cc

  pub one_verdict : (v u : Verdict) → IsProperVerdict w bounds thm v → IsProperVerdict w bounds thm u → Agree v u
  one_verdict Proved Vacuous p q = q.1 p.2.0 p.2.1.1
  one_verdict Proved (Refuted env) p q = unrefuted env p.1 q.1.1 q.2
  one_verdict Proved (Uncovered v) p q = uncovered v.number p.0 q
  one_verdict Vacuous Proved p q = p.1 q.2.0 q.2.1.1
  one_verdict Vacuous (Refuted env) p q = p.1 env q.1.1
  one_verdict Vacuous (Uncovered v) p q = uncovered v.number p.0 q
  one_verdict (Refuted env) Proved p q = unrefuted env q.1 p.1.1 p.2
  one_verdict (Refuted env) Vacuous p q = q.1 env p.1.1
  one_verdict (Refuted env) (Uncovered v) p q = uncovered v.number p.0 q
  one_verdict (Uncovered v) Proved p q = uncovered v.number q.0 p
  one_verdict (Uncovered v) Vacuous p q = uncovered v.number q.0 p
  one_verdict (Uncovered v) (Refuted env) p q = uncovered v.number q.0 p
  one_verdict (Uncovered v) (Uncovered u) p q = let e : Some v.number ≡ Some u.number = sym p ∙ q in cc
  one_verdict _ _ p q = tt

-- ---- scans
pub one_least : (w : WorldSeen) (thm : TheoremSeen) (j k : ℕ) → IsLeastRefuting w thm j → IsLeastRefuting w thm k → j ≡ k
one_least w thm j k a b = elim (cases_order j k) [
  | inl e ↦ e
  | inr d ↦ elim d [
    | inl l ↦ absurd (b.1 j l a.0)
    | inr l ↦ absurd (a.1 k l b.0)
  ]
]

pub scan_least : (w : WorldSeen) (bounds : Bounds) (thm : TheoremSeen) (k : ℕ) → IsProperScan w bounds thm (scan.Refutes k) → IsLeastRefuting w thm k
scan_least w bounds thm k s = (s.2, λ j l. s.3 j (omega arith) l)

pub scan_clean : (w : WorldSeen) (bounds : Bounds) (thm : TheoremSeen) (met : Bool) (k : ℕ) → IsProperScan w bounds thm (scan.Clean met) → IsProperScan w bounds thm (scan.Refutes k) → ⊥
scan_clean w bounds thm met k c s = c.0 k s.0 s.1 s.2
