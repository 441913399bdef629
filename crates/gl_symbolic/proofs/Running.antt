-- What the runs of a theorem's parts tell.
use Rattle.std.proofs.Common.{◌≡◌, ◌∙◌, sym, refl, subst, ℕ, Bool, true, false, not, ◌&&◌, List, Ok}
use Rattle.bfr_store.specs.declared.edge.Edge.{Edge}
use Rattle.bfr_store.specs.declared.meaning.Meaning.{Ghosts}
use Rattle.gl_logic.specs.Assignments.{value_at}
use Rattle.gl_logic.specs.Evaluate.{HasValue}
use Rattle.gl_logic.specs.Exp.{Exp}
use Rattle.gl_logic.specs.Object.{Object, nil}
use Rattle.gl_logic.specs.ObjectEq.{is_nil}
use Rattle.gl_logic.specs.WorldSeen.{WorldSeen}
use Rattle.gl_logic.proofs.Walks.{value_unique}
use Rattle.shape_spec.specs.Indices.{width_of}
use Rattle.shape_spec.specs.Theorems.{IsMet}
use Rattle.shape_spec.specs.declared.theorem.Part.TheVariants.{Hyp, Concl}
use Rattle.shape_spec.specs.declared.theorem.Thm.{Thm}
use Rattle.sym_objects.specs.declared.fault.SobFault.{SobFault}
use Rattle.sym_objects.specs.declared.sob.Sob.{Sob}
use Rattle.sym_objects.specs.Keeps.{Grows}
use Rattle.sym_objects.specs.Makes.{MakesEdge}
use Rattle.sym_objects.specs.Seen.{SobsSeen, stands_for}
use Rattle.gl_interp.specs.Causes.{Interprets, IsOnPath, Task}
use Rattle.gl_interp.specs.Environments.{env_under}
use Rattle.gl_symbolic.specs.Steps.{IsCondition, IsHypothesis, IsRefutation, IsTold, StandsUnder}
use Rattle.gl_symbolic.specs.Theorems.{term_at, input_under, IsOfPart}
use Rattle.gl_symbolic.proofs.Nil.{is_not_nil, is_nil_then}

-- ---- what is told of one environment
module _ (w : WorldSeen) (t : Exp) (env : List (ℕ × Object)) (b : Bool) (told : IsTold w t env b) where
  pub met_where : b ≡ true → IsMet w.definitions t env
  met_where e = (told.value, told.has, is_not_nil told.value b told.is e)

  pub nil_where : b ≡ false → HasValue w.definitions env t nil
  nil_where e = subst (λ (x : Object). HasValue w.definitions env t x) (is_nil_then told.value b told.is e) told.has

  pub unmet_where : b ≡ false → IsMet w.definitions t env → ⊥
  unmet_where e m = m.2 (value_unique w.definitions env t m.0 nil m.1 (nil_where e))

  pub where_met : IsMet w.definitions t env → b ≡ true
  where_met m = at b refl where
    at : (c : Bool) → b ≡ c → b ≡ true
    at true e = e
    at false e = absurd (unmet_where e m)

-- ---- a term's value and its truth
module _ {B : Type 0} (g : Ghosts B) where
  pub condition_made : (old mid new : SobsSeen B) (t : Task) (r : Sob) (e : Edge) → Interprets g old mid t (Ok r) → MakesEdge {E = SobFault} g mid new (Ok e) (λ a. not (is_nil (stands_for g mid r a))) → IsCondition g old new t.world t.term t.env t.path e
  condition_made old mid new t r e i m = record {
    live = m.live;
    told = λ a p. record { value = stands_for g mid r a; has = i.value a p; is = m.truth a };
  }

  -- of the hypothesis, under the path of all assignments
  pub hypothesis_made : (old new : SobsSeen B) (w : WorldSeen) (thm : Thm) (env : List (ℕ × Sob)) (always e : Edge) → ((a : ℕ → Bool) → g.truth_of old.store always a ≡ true) → ((a : ℕ → Bool) → env_under g old env a ≡ input_under thm a) → IsCondition g old new w (term_at thm Hyp) env always e → IsHypothesis g new w thm e
  hypothesis_made old new w thm env always e all is c = record {
    live = c.live;
    told = λ a. subst (λ (i : List (ℕ × Object)). IsTold w (term_at thm Hyp) i (g.truth_of new.store e a)) (is a) (c.told a (all a));
  }

  -- ---- the edge of a refutation
  and_true_left : (x y : Bool) → (x && y) ≡ true → x ≡ true
  and_true_left true y e = refl
  and_true_left false y e = absurd cc

  and_not_true : (x y : Bool) → (x && not y) ≡ true → y ≡ false
  and_not_true true true e = absurd cc
  and_not_true true false e = refl
  and_not_true false y e = absurd cc

  and_not_false : (x y : Bool) → x ≡ true → (x && not y) ≡ false → y ≡ true
  and_not_false true true h e = refl
  and_not_false true false h e = absurd cc
  and_not_false false y h e = absurd cc

  module _ (old mid new : SobsSeen B) (w : WorldSeen) (thm : Thm) (env : List (ℕ × Sob)) (hyp concl e : Edge) (hypothesis : IsHypothesis g old w thm hyp) (stands : StandsUnder g old thm hyp env) (condition : IsCondition g old mid w (term_at thm Concl) env hyp concl) (live : g.live new.store e)
      (truth : (a : ℕ → Bool) → g.truth_of new.store e a ≡ (g.truth_of old.store hyp a && not (g.truth_of mid.store concl a))) where
    concluded : (a : ℕ → Bool) → g.truth_of old.store hyp a ≡ true → IsTold w (term_at thm Concl) (input_under thm a) (g.truth_of mid.store concl a)
    concluded a h = subst (λ (i : List (ℕ × Object)). IsTold w (term_at thm Concl) i (g.truth_of mid.store concl a)) (stands.input a h) (condition.told a h)

    pub refutation_made : IsRefutation g new w thm e
    refutation_made = record {
      live = live;
      meets = λ a h. met_where w (term_at thm Hyp) (input_under thm a) _ (hypothesis.told a) (and_true_left _ _ (sym (truth a) ∙ h));
      fails = λ a h. nil_where w (term_at thm Concl) (input_under thm a) _ (concluded a (and_true_left _ _ (sym (truth a) ∙ h))) (and_not_true (g.truth_of old.store hyp a) _ (sym (truth a) ∙ h));
      holds = λ a h m. let met = where_met w (term_at thm Hyp) (input_under thm a) _ (hypothesis.told a) m in
          met_where w (term_at thm Concl) (input_under thm a) _ (concluded a met) (and_not_false (g.truth_of old.store hyp a) _ met (sym (truth a) ∙ h));
    }

  -- ---- assignments of a path
  pub of_hyp : (s : SobsSeen B) (w : WorldSeen) (thm : Thm) (path : Edge) (a : List Bool) → g.width_of s.store ≡ width_of thm.bindings → IsOnPath g s path a → IsOfPart w thm Hyp a
  of_hyp s w thm path a same p = p.0 ∙ same

  pub of_concl : (s : SobsSeen B) (w : WorldSeen) (thm : Thm) (hyp : Edge) (a : List Bool) → g.width_of s.store ≡ width_of thm.bindings → IsHypothesis g s w thm hyp → IsOnPath g s hyp a → IsOfPart w thm Concl a
  of_concl s w thm hyp a same h p = (p.0 ∙ same, met_where w (term_at thm Hyp) (input_under thm (value_at a)) _ (h.told (value_at a)) p.1)

  -- ---- what stands after further calls
  pub hypothesis_later : (old new : SobsSeen B) (w : WorldSeen) (thm : Thm) (e : Edge) → Grows g old new → IsHypothesis g old w thm e → IsHypothesis g new w thm e
  hypothesis_later old new w thm e k h = record {
    live = k.store.stays e h.live;
    told = λ a. subst (λ b. IsTold w (term_at thm Hyp) (input_under thm a) b) (sym (k.store.same e a h.live)) (h.told a);
  }
