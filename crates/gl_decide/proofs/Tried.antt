-- What one input tells.
use Rattle.std.proofs.Common.{◌≡◌, ◌∙◌, sym, refl, subst, ℕ, List, ◌++◌, Bool, true, false, not, inl, inr, ◌⊎◌}
use Rattle.std.specs.List.{Contains}
use Rattle.std.proofs.lemmas.List.Elements.{Contains-append_cases}
use Rattle.gl_logic.specs.CellCounts.{constant_cells}
use Rattle.gl_logic.specs.Object.{Object, nil}
use Rattle.gl_logic.specs.ObjectEq.{is_nil}
use Rattle.gl_logic.specs.Exp.{Exp}
use Rattle.gl_logic.specs.Evaluate.{HasValue}
use Rattle.gl_logic.specs.IsTermOf.{IsTermOf}
use Rattle.gl_logic.specs.IsTotal.{IsTotal}
use Rattle.gl_logic.specs.WorldSeen.{WorldSeen}
use Rattle.shape_spec.specs.Theorems.{IsMet}
use Rattle.shape_spec.specs.InputMeant.{assignment_numbered}
use Rattle.shape_spec.specs.declared.theorem.Part.TheVariants as part
use Rattle.lisp_eval.specs.Answers.{HasGrown}
use Rattle.lisp_eval.specs.Machines.{MachineSeen}
use Rattle.lisp_eval.specs.declared.fault.EvalFault.{EvalFault}
use Rattle.shape_spec.specs.TheoremSeen.{TheoremSeen}
use Rattle.gl_decide.specs.TheoremAt.{input_at}
use Rattle.gl_decide.specs.Scans.{HasCause}
use Rattle.gl_decide.specs.Placed.{input_cells, IsTruthOf, HasLicense, LacksCells}
use Rattle.gl_decide.specs.Trials.{IsReady, HoldsInput, IsInputOf, IsProperTrial}
use Rattle.gl_decide.specs.declared.trial.Trial.{Trial}
use Rattle.gl_decide.specs.declared.trial.Trial.TheVariants as trial
use Rattle.gl_decide.proofs.Causes.{cause_of, from_start}
use Rattle.gl_decide.proofs.Nil.{nil_told, nil_denied}

-- ---- truths
not_true : (b : Bool) → true ≡ not b → b ≡ false
not_true true e = absurd cc
not_true false e = refl

not_false : (b : Bool) → false ≡ not b → b ≡ true
not_false true e = refl
not_false false e = absurd cc

module _ (w : WorldSeen) (env : List (ℕ × Object)) (t : Exp) where
  pub met_from : IsTruthOf w env t true → IsMet w.definitions t env
  met_from h = (h.value, h.has, nil_denied h.value (not_true (is_nil h.value) h.is))

  pub nil_from : IsTruthOf w env t false → HasValue w.definitions env t nil
  nil_from h = subst (λ (x : Object). HasValue w.definitions env t x) (nil_told h.value (not_false (is_nil h.value) h.is)) h.has

-- ---- parts without an answer
module _ (w : WorldSeen) (thm : TheoremSeen) (env : List (ℕ × Object)) (m : MachineSeen) (holds : HoldsInput w thm env m) (input : IsInputOf thm env) (f : EvalFault) where
  pub stopped_hyp : HasLicense w m.functions env thm.hyp m.steps m.arena f → IsProperTrial w m.steps m.arena.limit thm env (trial.Stopped part.Hyp f)
  stopped_hyp l = λ n. (input, cause_of w m.functions thm part.Hyp env m.steps m.arena f holds.functions holds.cells l n)

  pub stopped_concl : IsMet w.definitions thm.hyp env → HasLicense w m.functions env thm.concl m.steps m.arena f → IsProperTrial w m.steps m.arena.limit thm env (trial.Stopped part.Concl f)
  stopped_concl met l = λ n. ((input.0, input.1, met), cause_of w m.functions thm part.Concl env m.steps m.arena f holds.functions holds.cells l n)

-- ---- an input that has no room
pub stopped_placing : (w : WorldSeen) (thm : TheoremSeen) (n : ℕ) (old new : MachineSeen) (f : EvalFault) → IsTotal w.definitions → IsTermOf w.definitions thm.hyp → IsReady w thm old → LacksCells (input_at thm n) old new f
    → IsProperTrial w old.steps old.arena.limit thm (input_at thm n) (trial.Stopped part.Hyp f)
stopped_placing w thm n old new f total of ready lacks = λ q.
    let env = input_at thm n in
    let e = lacks.only q in
    let among : (y : Object) → Contains (old.arena.objects ++ input_cells env) y → Contains (input_cells env) y ⊎ Contains (constant_cells w) y = λ y c. elim (Contains-append_cases old.arena.objects (input_cells env) y c) [
      | inl d ↦ inr (ready.cells y d)
      | inr d ↦ inl d
    ] in (
      (assignment_numbered n, refl),
      subst (HasCause w old.steps old.arena.limit thm part.Hyp env) (sym e) (from_start w env thm.hyp (old.arena.objects ++ input_cells env) old.arena.limit total of among (lacks.crowded e)),
    )

-- ---- the same trial, said of other names for what it speaks of
pub trial_at : (w : WorldSeen) (thm : TheoremSeen) (s t l m : ℕ) (env other : List (ℕ × Object)) (r : Trial) → s ≡ t → l ≡ m → env ≡ other → IsProperTrial w s l thm env r → IsProperTrial w t m thm other r
trial_at w thm s t l m env other r e f g h =
    subst (λ (i : List (ℕ × Object)). IsProperTrial w t m thm i r) g (subst (λ (k : ℕ). IsProperTrial w t k thm env r) f (subst (λ (k : ℕ). IsProperTrial w k l thm env r) e h))

pub grown_at : (old mid : List Object) (new : List Object) → HasGrown old mid → new ≡ mid → HasGrown old new
grown_at old mid new g e = (g.0, e ∙ g.1)
