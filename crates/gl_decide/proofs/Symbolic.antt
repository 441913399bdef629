-- From a symbolic decision to the verdicts.
use Rattle.std.proofs.Common.{◌≡◌, sym, refl, subst, ℕ, List, Bool, length}
use Rattle.gl_logic.specs.Assignments.{value_at}
use Rattle.gl_logic.specs.Exp.{Exp}
use Rattle.gl_logic.specs.Object.{Object}
use Rattle.gl_logic.specs.WorldSeen.{WorldSeen}
use Rattle.shape_spec.specs.Indices.{width_of}
use Rattle.shape_spec.specs.InputMeant.{input_meant}
use Rattle.shape_spec.specs.declared.theorem.Part.{Part}
use Rattle.shape_spec.specs.declared.theorem.Part.TheVariants.{Hyp, Concl}
use Rattle.shape_spec.specs.declared.theorem.Thm.{Thm}
use Rattle.coverage.proofs.Covering.{some_input, hyp_on_input, holds_from_inputs}
use Rattle.gl_symbolic.specs.Decisions.{IsProper}
use Rattle.gl_symbolic.specs.Theorems as symbolic
use Rattle.gl_symbolic.specs.declared.decision.Decision.{Decision}
use Rattle.gl_symbolic.specs.declared.decision.Decision.TheVariants as decision
use Rattle.gl_decide.specs.Answered.{HasAssignment, IsCoveredIn, IsTold, input_of_bits}
use Rattle.gl_decide.specs.Bounds.{Bounds}
use Rattle.gl_decide.specs.Causes.{IsOutOfClock, IsOutOfWidth, IsOutOfCells}
use Rattle.shape_spec.specs.TheoremSeen.{theorem_seen}
use Rattle.gl_decide.specs.TheoremAt.{term_at, clock_at}
use Rattle.gl_decide.proofs.Causes.{from_dear}
use Rattle.lisp_eval.specs.Answers.{IsDear}
use Rattle.gl_decide.specs.Verdicts.{IsInputFor, IsProperVerdict}
use Rattle.gl_decide.specs.declared.verdict.Verdict.{Verdict}
use Rattle.gl_decide.specs.declared.verdict.Verdict.TheVariants as verdict

-- ---- assignments
module _ (w : WorldSeen) (t : Thm) where
  of_part : (p : Part) (a : List Bool) → symbolic.IsOfPart w t p a → length a ≡ width_of t.bindings
  of_part Hyp a h = h
  of_part Concl a h = h.0

  pub has_assignment : (steps cells : ℕ) (d : Decision) → IsProper w steps cells t d → HasAssignment (theorem_seen t) d
  has_assignment steps cells (decision.Refuted a) p = p.0.0
  has_assignment steps cells (decision.Clock part a) p = of_part part a p.0
  has_assignment steps cells (decision.Width part a) p = of_part part a p.0
  has_assignment steps cells (decision.Steps part a) p = of_part part a p.0
  has_assignment steps cells (decision.Cells part a) p = of_part part a p.0
  has_assignment steps cells _ p = tt

  -- ---- parts
  input_for : (p : Part) (a : List Bool) → symbolic.IsOfPart w t p a → IsInputFor w (theorem_seen t) p (input_of_bits (theorem_seen t) a)
  input_for Hyp a h = (value_at a, refl)
  input_for Concl a h = (value_at a, refl, h.1)

  -- what is said of a part's term and clock
  said : (V : Exp → ℕ → Type 0) (p : Part) → V (symbolic.term_at t p) (symbolic.clock_at t p) → V (term_at (theorem_seen t) p) (clock_at (theorem_seen t) p)
  said V Hyp h = h
  said V Concl h = h

  -- what is said of a part and an input
  on_input : (V : Part → List (ℕ × Object) → Type 0) (p q : Part) (env other : List (ℕ × Object)) → (q ≡ p) × (env ≡ other) → V p other → V q env
  on_input V p q env other e v = subst (λ (r : Part). V r env) (sym e.0) (subst (V p) (sym e.1) v)

-- ---- verdicts
module _ (w : WorldSeen) (bounds : Bounds) (t : Thm) (known : IsCoveredIn w (theorem_seen t)) where
  proved : IsProper w bounds.steps bounds.cells t decision.Proved → IsProperVerdict w bounds (theorem_seen t) verdict.Proved
  proved p = (
    known.covered,
    holds_from_inputs w.definitions known.ground (theorem_seen t).hyp (theorem_seen t).concl t.bindings known.bindings known.bound known.covered p.0,
    (input_meant t.bindings p.1.0, ((p.1.0, refl), p.1.1)),
  )

  emptied : IsProper w bounds.steps bounds.cells t decision.Vacuous → IsProperVerdict w bounds (theorem_seen t) verdict.Vacuous
  emptied p = (
    known.covered,
    λ env m.
        let a = some_input w.definitions known.ground (theorem_seen t).hyp (theorem_seen t).concl t.bindings known.bindings known.bound known.covered env m in
        p a.0 (hyp_on_input w.definitions known.ground (theorem_seen t).hyp (theorem_seen t).concl t.bindings known.bindings known.bound known.covered env m),
  )

  pub told_proper : (d : Decision) (v : Verdict) → IsProper w bounds.steps bounds.cells t d → IsTold (theorem_seen t) d v → IsProperVerdict w bounds (theorem_seen t) v
  told_proper decision.Proved verdict.Proved p e = proved p
  told_proper decision.Vacuous verdict.Vacuous p e = emptied p
  told_proper (decision.Refuted a) (verdict.Refuted env) p e =
      subst (λ (i : List (ℕ × Object)). IsProperVerdict w bounds (theorem_seen t) (verdict.Refuted i)) (sym e) (known.covered, ((value_at a, refl), p.0.1), p.1)
  told_proper (decision.Clock part a) (verdict.Clock q env) p e =
      on_input w t (λ r i. IsProperVerdict w bounds (theorem_seen t) (verdict.Clock r i)) part q env (input_of_bits (theorem_seen t) a) e (known.covered, input_for w t part a p.0, said w t (λ x n. IsOutOfClock w n (input_of_bits (theorem_seen t) a) x) part p.1)
  told_proper (decision.Width part a) (verdict.Width q env) p e =
      on_input w t (λ r i. IsProperVerdict w bounds (theorem_seen t) (verdict.Width r i)) part q env (input_of_bits (theorem_seen t) a) e (known.covered, input_for w t part a p.0, said w t (λ x n. IsOutOfWidth w (input_of_bits (theorem_seen t) a) x) part p.1)
  told_proper (decision.Steps part a) (verdict.Steps q env) p e =
      on_input w t (λ r i. IsProperVerdict w bounds (theorem_seen t) (verdict.Steps r i)) part q env (input_of_bits (theorem_seen t) a) e (known.covered, input_for w t part a p.0, from_dear w (input_of_bits (theorem_seen t) a) (term_at (theorem_seen t) part) t.memoized t.memoized bounds.steps refl (said w t (λ x n. IsDear w t.memoized (input_of_bits (theorem_seen t) a) x bounds.steps) part p.1))
  told_proper (decision.Cells part a) (verdict.Cells q env) p e =
      on_input w t (λ r i. IsProperVerdict w bounds (theorem_seen t) (verdict.Cells r i)) part q env (input_of_bits (theorem_seen t) a) e (known.covered, input_for w t part a p.0, said w t (λ x n. IsOutOfCells w bounds.cells (input_of_bits (theorem_seen t) a) x) part p.1)
  told_proper d v p e = absurd e
