-- From what a scan found to the verdicts.
use Rattle.std.proofs.Common.{◌≡◌, sym, refl, subst, ℕ, ◌<◌, ◌^◌, arith, List, true, false, inl, inr}
use Rattle.gl_logic.specs.Object.{Object}
use Rattle.gl_logic.specs.ObjectEq.{is_nil}
use Rattle.gl_logic.specs.Evaluate.{HasValue}
use Rattle.gl_logic.specs.WorldSeen.{WorldSeen}
use Rattle.shape_spec.specs.Indices.{width_of}
use Rattle.shape_spec.specs.InputMeant.{assignment_numbered}
use Rattle.shape_spec.specs.Theorems.{IsMet}
use Rattle.shape_spec.specs.declared.theorem.Part.{Part}
use Rattle.coverage.proofs.Covering.{holds_from_numbers, never_from_numbers}
use Rattle.lisp_eval.specs.declared.fault.EvalFault.{EvalFault}
use Rattle.lisp_eval.specs.declared.fault.EvalFault.TheVariants as fault
use Rattle.gl_decide.specs.Bounds.{Bounds}
use Rattle.shape_spec.specs.TheoremSeen.{TheoremSeen}
use Rattle.gl_decide.specs.TheoremAt.{input_at}
use Rattle.gl_decide.specs.Scans.{NoneRefutes, HasCause, IsProperScan}
use Rattle.gl_decide.proofs.Nil.{nil_or_not}
use Rattle.gl_decide.specs.Answered.{IsCoveredIn, IsRefutedAt, IsStoppedAt}
use Rattle.gl_decide.specs.Verdicts.{IsProperVerdict}
use Rattle.gl_decide.specs.declared.scanned.Scan.TheVariants as scan
use Rattle.gl_decide.specs.declared.verdict.Verdict.{Verdict}
use Rattle.gl_decide.specs.declared.verdict.Verdict.TheVariants as verdict

module _ (w : WorldSeen) (bounds : Bounds) (thm : TheoremSeen) (known : IsCoveredIn w thm) where
  -- ---- all inputs
  -- where the hypothesis is met and nothing refutes, the conclusion is met
  concluded : (n : ℕ) → NoneRefutes w thm 0 (2 ^ width_of thm.bindings) → n < 2 ^ width_of thm.bindings → IsMet w.definitions thm.hyp (input_at thm n) → IsMet w.definitions thm.concl (input_at thm n)
  concluded n none l m =
      let v = known.total (input_at thm n) thm.concl known.concl in
      elim (nil_or_not v.0 (is_nil v.0) refl) [
        | inl e ↦ absurd (none n (omega arith) l (m, subst (λ (x : Object). HasValue w.definitions (input_at thm n) thm.concl x) e v.1))
        | inr h ↦ (v.0, v.1, h)
      ]

  pub proved : IsProperScan w bounds thm (scan.Clean true) → IsProperVerdict w bounds thm verdict.Proved
  proved s =
      let k = s.1.0 refl in (
        known.covered,
        holds_from_numbers w.definitions known.ground thm.hyp thm.concl thm.bindings known.bindings known.bound known.covered (λ n l m. concluded n s.0 l m),
        (input_at thm k.0, ((assignment_numbered k.0, refl), k.3)),
      )

  pub emptied : IsProperScan w bounds thm (scan.Clean false) → IsProperVerdict w bounds thm verdict.Vacuous
  emptied s = (
    known.covered,
    never_from_numbers w.definitions known.ground thm.hyp thm.concl thm.bindings known.bindings known.bound known.covered (λ n l m. let e : false ≡ true = s.1.1 (n, omega arith, l, m) in absurd cc),
  )

  -- ---- one input
  pub refuted : (k : ℕ) → IsProperScan w bounds thm (scan.Refutes k) → (v : Verdict) → IsRefutedAt thm k v → IsProperVerdict w bounds thm v
  refuted k s (verdict.Refuted env) e = subst (λ (i : List (ℕ × Object)). IsProperVerdict w bounds thm (verdict.Refuted i)) (sym e) (known.covered, ((assignment_numbered k, refl), s.2.0), s.2.1)
  refuted k s verdict.Memory e = tt
  refuted k s verdict.Proved e = absurd e
  refuted k s verdict.Vacuous e = absurd e
  refuted k s (verdict.Uncovered v) e = absurd e
  refuted k s (verdict.Clock p env) e = absurd e
  refuted k s (verdict.Width p env) e = absurd e
  refuted k s (verdict.Steps p env) e = absurd e
  refuted k s (verdict.Cells p env) e = absurd e
  refuted k s (verdict.Nodes st) e = absurd e
  refuted k s (verdict.Clauses st) e = absurd e

  module _ (k : ℕ) (part : Part) (f : EvalFault) (s : IsProperScan w bounds thm (scan.Stopped k part f)) where
    stopped_by : (p : Part) (env : List (ℕ × Object)) → p ≡ part → env ≡ input_at thm k → (V : Part → List (ℕ × Object) → Type 0) → V part (input_at thm k) → V p env
    stopped_by p env e i V v = subst (λ (q : Part). V q env) (sym e) (subst (V part) (sym i) v)

    pub stopped : (v : Verdict) → IsStoppedAt thm k part f v → IsProperVerdict w bounds thm v
    stopped (verdict.Width p env) e =
        let c : HasCause w bounds.steps bounds.cells thm part (input_at thm k) fault.Width = subst (HasCause w bounds.steps bounds.cells thm part (input_at thm k)) e.0 s.3 in
        stopped_by p env e.1 e.2 (λ q i. IsProperVerdict w bounds thm (verdict.Width q i)) (known.covered, s.2, c)
    stopped (verdict.Steps p env) e =
        let c : HasCause w bounds.steps bounds.cells thm part (input_at thm k) fault.Steps = subst (HasCause w bounds.steps bounds.cells thm part (input_at thm k)) e.0 s.3 in
        stopped_by p env e.1 e.2 (λ q i. IsProperVerdict w bounds thm (verdict.Steps q i)) (known.covered, s.2, c)
    stopped (verdict.Cells p env) e =
        let c : HasCause w bounds.steps bounds.cells thm part (input_at thm k) fault.Cells = subst (HasCause w bounds.steps bounds.cells thm part (input_at thm k)) e.0 s.3 in
        stopped_by p env e.1 e.2 (λ q i. IsProperVerdict w bounds thm (verdict.Cells q i)) (known.covered, s.2, c)
    stopped verdict.Memory e = tt
    stopped verdict.Proved e = absurd e
    stopped verdict.Vacuous e = absurd e
    stopped (verdict.Refuted env) e = absurd e
    stopped (verdict.Uncovered v) e = absurd e
    stopped (verdict.Clock p env) e = absurd e
    stopped (verdict.Nodes st) e = absurd e
    stopped (verdict.Clauses st) e = absurd e
