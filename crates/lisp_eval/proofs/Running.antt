-- The invariant of an evaluation, and what follows from it at each of its ends.
use Rattle.std.proofs.Common.{◌≡◌, ◌∙◌, ap, sym, refl, ℕ, ◌+◌, ◌<◌, List, [], ◌∷◌, ◌++◌, Some, subst, arith, length}
use Rattle.gl_logic.specs.Object.{Object}
use Rattle.gl_logic.specs.Definition.{Definition}
use Rattle.gl_logic.specs.Exp.{Exp}
use Rattle.gl_logic.specs.Walk.{Walk, CallMade, then, walk}
use Rattle.gl_logic.specs.Counts.{memoized_cost}
use Rattle.gl_logic.proofs.Optional.{some_same, then_inverted}
use Rattle.gl_logic.specs.Every.{Every}
use Rattle.lisp_eval.specs.Threads.{Thread, met_in, thread, threaded, threaded_cost}
use Rattle.lisp_eval.specs.Frames.{Frame, Keep, Focus, Visit, Give, Rest, before, given, all_of, resume, focused, rest_of}
use Rattle.lisp_eval.proofs.Values.{value_seen}
use Rattle.lisp_eval.specs.CallValue.{IsCallValue}
use Rattle.lisp_eval.proofs.Followed.{followed_by_none}
use Rattle.lisp_eval.proofs.Cover.{AnswersAreFine, IsFineCall, Threaded, threads_there}
use Rattle.lisp_eval.proofs.Goes.{Goes, kept_value}
use Rattle.lisp_eval.proofs.Law.{threaded_at_most}

module _ (P Fine : Object → Type 0) (ds : List Definition) (answered functions : List ℕ) (depth : ℕ) (run : Thread) where
  -- what is left leads to the end of the threaded walk `run`, and with the visits that are spent it has its count; P holds of all that is still to be seen, and all is fine where that is
  pub record Running (spent : ℕ) (focus : Focus) (frames : List Frame) (kept : List CallMade) : Type 0 where
    pub rest : Rest
    pub is : rest_of ds answered functions depth focus frames kept ≡ Some rest
    pub value : rest.value ≡ run.value
    pub calls : rest.kept ≡ run.kept
    pub count : spent + rest.count ≡ length run.seen
    pub within : Every P rest.seen
    pub fine : Every Fine rest.seen → Every Fine run.seen

  pub starts : (t : Exp) (env : List (ℕ × Object)) (kept : List CallMade) → thread ds answered functions depth env t kept ≡ Some run → Every P run.seen → Running 0 (Visit t env) [] kept
  starts t env kept e p = record {
    rest = record { value = run.value; count = length run.seen; seen = run.seen; kept = run.kept };
    is = followed_by_none (focused ds answered functions depth (Visit t env) kept) ∙ ap (λ o. then o all_of) e;
    value = refl;
    calls = refl;
    count = omega arith;
    within = p;
    fine = λ h. h;
  }

  pub record GoesOn (met : List Object) (spent : ℕ) (focus : Focus) (frames : List Frame) (kept : List CallMade) : Type 0 where
    pub within : Every P met
    pub goes_on : Every Fine met → Running spent focus frames kept

  -- a step keeps it. What the step sees is in P at once, and has to be fine
  pub runs_on : (spent more : ℕ) (met : List Object) (focus focus' : Focus) (frames frames' : List Frame) (kept kept' : List CallMade) → Running spent focus frames kept
      → Goes P Fine more met (rest_of ds answered functions depth focus frames kept) (rest_of ds answered functions depth focus' frames' kept') → GoesOn met (spent + more) focus' frames' kept'
  runs_on spent more met focus focus' frames frames' kept kept' h g =
      let l = g h.rest h.is in
      let w = l.within h.within in
      record {
        within = w.0;
        goes_on = λ f. record {
          rest = record { value = h.rest.value; count = l.count; seen = l.seen; kept = h.rest.kept };
          is = l.is;
          value = h.value;
          calls = h.calls;
          count = omega (arith, h.count, l.spends);
          within = w.1;
          fine = λ s. h.fine (l.fine f s);
        };
      }

  -- ---- its ends
  pub record Ended (spent : ℕ) (v : Object) (kept : List CallMade) : Type 0 where
    pub value : v ≡ run.value
    pub calls : kept ≡ run.kept
    pub count : spent ≡ length run.seen
    pub fine : Every Fine run.seen

  pub ends : (spent : ℕ) (v : Object) (kept : List CallMade) → Running spent (Give v) [] kept → Ended spent v kept
  ends spent v kept h =
      let q : (record { value = v; count = 0; seen = []; kept = kept }) ≡ h.rest = some_same _ _ (sym (followed_by_none (given v kept)) ∙ h.is) in
      record {
        value = ap (λ (r : Rest). r.value) q ∙ h.value;
        calls = ap (λ (r : Rest). r.kept) q ∙ h.calls;
        count = let z : 0 ≡ h.rest.count = ap (λ (r : Rest). r.count) q in omega (arith, z, h.count);
        fine = h.fine (subst (λ (r : Rest). Every Fine r.seen) q tt);
      }

  some_seen : (y : Thread) → (Every (λ _. ⊥) y.seen → ⊥) → 0 < length y.seen
  some_seen y h = at_least y.seen h where
    at_least : (xs : List Object) → (Every (λ _. ⊥) xs → ⊥) → 0 < length xs
    at_least [] g = absurd (g tt)
    at_least (x ∷ xs) g = omega arith

  -- a visit that is still to be made is not spent yet
  pub visits_more : (spent : ℕ) (t : Exp) (env : List (ℕ × Object)) (frames : List Frame) (kept : List CallMade) → Running spent (Visit t env) frames kept → spent < length run.seen
  visits_more spent t env frames kept h =
      let i = then_inverted (focused ds answered functions depth (Visit t env) kept) _ h.rest h.is in
      let j = then_inverted (thread ds answered functions depth env t kept) all_of i.0 i.1.0 in
      let l = then_inverted (resume ds answered functions depth frames i.0.value i.0.kept) (before i.0) h.rest i.1.1 in
      let a : length j.0.seen ≡ i.0.count = ap (λ (r : Rest). r.count) (some_same _ _ j.1.1) in
      let b : i.0.count + l.0.count ≡ h.rest.count = ap (λ (r : Rest). r.count) (some_same _ _ l.1.1) in
      let c : 0 < length j.0.seen = some_seen j.0 (value_seen (λ _. ⊥) (threaded ds answered functions depth) t env kept j.0 j.1.0) in
      omega (arith, a, b, c, h.count)

  pub keeps_value : (spent f : ℕ) (xs : List Object) (v : Object) (frames : List Frame) (kept : List CallMade) → Running spent (Give v) (frames ++ Keep f xs ∷ []) kept → IsCallValue ds f xs v
  keeps_value spent f xs v frames kept h = kept_value P Fine ds answered functions depth f xs v frames kept h.rest h.is

-- the whole: of a term that has a value, from whatever kept calls whose plain evaluations are fine
module _ (P Fine : Object → Type 0) (ds : List Definition) (answered functions : List ℕ) (answers : AnswersAreFine ds answered Fine) (depth : ℕ) (env : List (ℕ × Object)) (t : Exp) (r : Walk) (walks : walk ds depth env t ≡ Some r) (seen : Every P r.seen) (kept : List CallMade) where
  pub there : Threaded ds answered functions depth P Fine answers kept env t r
  there = threads_there ds answered functions depth P Fine answers kept env t r walks

  pub begins : Running P Fine ds answered functions depth there.run 0 (Visit t env) [] kept
  begins = starts P Fine ds answered functions depth there.run t env kept there.walks (there.within seen)

  -- Steps is licensed: a visit is to be made, and these are spent
  pub too_many : (spent : ℕ) (u : Exp) (uenv : List (ℕ × Object)) (frames : List Frame) (k : List CallMade) → Running P Fine ds answered functions depth there.run spent (Visit u uenv) frames k → spent < memoized_cost ds functions depth env t
  too_many spent u uenv frames k h =
      let a = visits_more P Fine ds answered functions depth there.run spent u uenv frames k h in
      let b = threaded_at_most ds answered functions depth env t kept r.value (ap (λ o. then o (λ w. Some w.value)) walks) in
      let c : threaded_cost ds answered functions depth env t kept ≡ length there.run.seen = ap (λ o. length (met_in o)) there.walks in
      omega (arith, a, b, c)

  -- Ok: the value, nothing wide, and the calls that are kept now are fine
  pub record IsDone (v : Object) (k : List CallMade) : Type 0 where
    pub value : v ≡ r.value
    pub seen_fine : Every Fine r.seen
    pub calls_fine : Every (IsFineCall ds Fine) k

  pub done : (spent : ℕ) (v : Object) (k : List CallMade) → Running P Fine ds answered functions depth there.run spent (Give v) [] k → Every (IsFineCall ds Fine) kept → IsDone v k
  done spent v k h f =
      let e = ends P Fine ds answered functions depth there.run spent v k h in
      let g = there.fine e.fine f in
      record { value = e.value ∙ there.value; seen_fine = g.0; calls_fine = subst (λ (c : List CallMade). Every (IsFineCall ds Fine) c) (sym e.calls) g.1 }
