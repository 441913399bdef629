-- Steps of the evaluator's loop without frames: to a value that is found at once, or to where a walk goes on.
use Rattle.std.proofs.Common.{◌≡◌, ◌∙◌, ap, sym, refl, subst, ℕ, ◌+◌, List, [], ◌∷◌, ◌++◌, length, arith, append_assoc, Some, inl, inr}
use Rattle.gl_logic.specs.Object.{Object}
use Rattle.gl_logic.specs.Definition.{Definition}
use Rattle.gl_logic.specs.Every.{Every}
use Rattle.gl_logic.specs.Exp.{Exp}
use Rattle.gl_logic.specs.TermOf.{term_of}
use Rattle.gl_logic.specs.Walk.{CallMade, then}
use Rattle.gl_logic.specs.WorldSeen.{WorldSeen}
use Rattle.gl_logic.proofs.Optional.{some_same, then_inverted}
use Rattle.hons_arena.specs.declared.id.Id.{Id}
use Rattle.hons_arena.specs.Held.{Held}
use Rattle.hons_arena.specs.Ids.{object_at, IsLive, IsIdOf}
use Rattle.memo_tables.specs.Calls.{Call}
use Rattle.lisp_eval.specs.Answers.{IsCrowded, HasGrown}
use Rattle.lisp_eval.specs.Directs.{Ends, GivesAtOnce}
use Rattle.lisp_eval.specs.Frames.{Frame, Visit, Give, Rest, before, all_of, focused, resume}
use Rattle.lisp_eval.specs.Kept.{entries_of}
use Rattle.lisp_eval.specs.Leads.{Follows, LeadsTo}
use Rattle.lisp_eval.specs.Sights.{Sees, Adds, Lacks}
use Rattle.lisp_eval.specs.States.{env_of, frames_of, focus_of}
use Rattle.lisp_eval.specs.Tables.{answered_in}
use Rattle.lisp_eval.specs.Threads.{Thread, thread}
use Rattle.lisp_eval.specs.Within.{IsIn, AreWithin}
use Rattle.lisp_eval.specs.declared.frame.Binding.{Binding}
use Rattle.lisp_eval.specs.declared.frame.Focus.TheVariants as focus
use Rattle.lisp_eval.specs.declared.frame.Frame as held
use Rattle.lisp_eval.proofs.Along.{then_is}
use Rattle.lisp_eval.proofs.CallsMade.{every_parts}
use Rattle.lisp_eval.proofs.Environments.{stays_at}
use Rattle.lisp_eval.proofs.Goes.{Left, Goes, RestOf, goes_on, at_once_goes}
use Rattle.lisp_eval.proofs.Going.{Narrow, Going, going_step, going_crowded}
use Rattle.lisp_eval.proofs.Leads.{every_of, follows_none}
use Rattle.lisp_eval.proofs.Sights.{every_at, within_more, within_on}
use Rattle.lisp_eval.proofs.Standing.{Grows, still, env_in, at_once}
use Rattle.lisp_eval.proofs.State.{State, visit_env, env_stands, at_visit}

-- an environment of live ids stands for one thing in whatever arena grows
env_still : (objects : List Object) (bindings : List Binding) → Every (λ b. IsLive objects b.value) bindings → (more : List Object) → env_of (objects ++ more) bindings ≡ env_of objects bindings
env_still objects [] h more = refl
env_still objects (b ∷ bindings) h more =
    let first : object_at (objects ++ more) b.value ≡ object_at objects b.value = stays_at objects more b.value h.0 in
    let rest = env_still objects bindings h.1 more in λ i. (b.name.number, first i) ∷ rest i

grows_held : (objects new : List Object) → HasGrown objects new → Grows objects new
grows_held objects new g more = (g.0 ++ more, ap (λ z. z ++ more) g.1 ∙ append_assoc objects g.0 more)

-- ---- a walk that goes on as another
module _ (P Fine : Object → Type 0) (ds : List Definition) (answered functions : List ℕ) (depth : ℕ) where
  pub leads_goes : (t : Exp) (env : List (ℕ × Object)) (u : Exp) (inner : List (ℕ × Object)) (fs : List Frame) (k : List CallMade) (visits : ℕ) (r s : Thread) → thread ds answered functions depth env t k ≡ Some r → thread ds answered functions depth inner u k ≡ Some s
      → (f : Follows visits r s) → Goes P Fine visits f.met (RestOf P Fine ds answered functions depth (Visit t env) fs k) (RestOf P Fine ds answered functions depth (Visit u inner) fs k)
  leads_goes t env u inner fs k visits r s e g f =
      goes_on P Fine ds answered functions depth visits f.met (Visit t env) (Visit u inner) fs k (λ x q.
      let whole : Rest = record { value = r.value; count = length r.seen; seen = r.seen; kept = r.kept } in
      let is : whole ≡ x = some_same whole x (sym (ap (λ o. then o all_of) e) ∙ q) in
      subst (Left P Fine visits f.met (focused ds answered functions depth (Visit u inner) k)) is (record {
        count = length s.seen;
        seen = s.seen;
        is = then_is (thread ds answered functions depth inner u k) all_of s _ g (λ i. Some (record { value = f.value i; count = length s.seen; seen = s.seen; kept = f.calls i }));
        spends = f.count;
        within = λ h. (every_of P f.met (λ y i. every_at P r.seen h y (f.met_seen y i)), every_of P s.seen (λ y i. every_at P r.seen h y (f.later_seen y i)));
        fine = λ m h. every_of Fine r.seen (λ y i. elim (f.all_seen y i) [
          | inl a ↦ every_at Fine f.met m y a
          | inr b ↦ every_at Fine s.seen h y b
        ]);
      }))

-- ---- a term is visited
module _ (w : WorldSeen) (functions : List ℕ) (env : List (ℕ × Object)) (t : Exp) (limit : ℕ) (start : List Object) (left : ℕ) (u : _) (uenv : _) (frames : List held.Frame) (objects : List Object) (entries : List (Call × Id)) (s : State w functions env t limit start left (focus.Visit u uenv) frames objects entries) where
  abbrev ds : List Definition
  ds = w.definitions

  abbrev A : List ℕ
  A = answered_in w.definitions

  abbrev here : Exp
  here = term_of u.now

  abbrev here_env : List (ℕ × Object)
  here_env = visit_env w functions env t limit start left u uenv frames objects entries s

  abbrev now : Going w s.ground functions env t limit start left (Visit here here_env) s.stack s.kept objects
  now = at_visit w functions env t limit start left u uenv frames objects entries s

  stands : (more : List Object) → env_of (objects ++ more) uenv.value.items ≡ here_env
  stands = env_stands w functions env t limit start left u uenv frames objects entries s

  env_same : env_of objects uenv.value.items ≡ here_env
  env_same = at_once (λ all. env_of all uenv.value.items) here_env objects stands

  -- its walk, which is a part of the whole
  record Walked : Type 0 where
    walk : Thread
    walks : thread ds A functions now.depth here_env here s.kept ≡ Some walk
    within : Every (IsIn now.walked.seen) walk.seen

  walked : Walked
  walked =
      let h = now.running in
      let i = then_inverted (focused ds A functions now.depth (Visit here here_env) s.kept) _ h.rest h.is in
      let j = then_inverted (thread ds A functions now.depth here_env here s.kept) all_of i.0 i.1.0 in
      let l = then_inverted (resume ds A functions now.depth s.stack i.0.value i.0.kept) (before i.0) h.rest i.1.1 in
      let a : i.0.seen ≡ j.0.seen = sym (ap (λ (r : Rest). r.seen) (some_same _ _ j.1.1)) in
      let b : h.rest.seen ≡ i.0.seen ++ l.0.seen = sym (ap (λ (r : Rest). r.seen) (some_same _ _ l.1.1)) in
      let all : Every (IsIn now.walked.seen) (i.0.seen ++ l.0.seen) = subst (Every (IsIn now.walked.seen)) b h.within in
      record { walk = j.0; walks = j.1.0; within = subst (Every (IsIn now.walked.seen)) a (every_parts (IsIn now.walked.seen) i.0.seen l.0.seen all).0 }

  -- what it sees
  abbrev pub Sights : List Object → Type 0
  Sights = Sees w.definitions functions (env_of objects uenv.value.items) (term_of u.now)

  pub advance_sees : (seen : List Object) × (Sights seen × ((x : Object) → IsIn seen x → IsIn now.walked.seen x))
  advance_sees =
      let there : Sees w.definitions functions here_env here walked.walk.seen = record { depth = now.depth; kept = s.kept; walk = walked.walk; walks = walked.walks; sight = refl } in
      (walked.walk.seen, (subst (λ (e : List (ℕ × Object)). Sees w.definitions functions e here walked.walk.seen) (sym env_same) there, λ x h. every_at (IsIn now.walked.seen) walked.walk.seen walked.within x h))

  -- ---- the arena has grown by cells of it
  module _ (old new : Held) (same : old.objects ≡ objects) (adds : Adds Sights old new) where
    advance_within : AreWithin start now.walked.seen new.objects
    advance_within =
        let k = advance_sees in
        within_on start now.walked.seen old.objects new.objects (subst (λ (zs : List Object). AreWithin start now.walked.seen zs) (sym same) now.within) (within_more old.objects k.0 now.walked.seen new.objects k.1.1 (adds.within k.0 k.1.0))

    grows : Grows objects new.objects
    grows = grows_held objects new.objects (subst (λ (zs : List Object). HasGrown zs new.objects) same adds.grown)

    frames_still : (more : List Object) → frames_of (new.objects ++ more) frames ≡ s.stack
    frames_still = still (λ all. frames_of all frames) s.stack objects new.objects grows s.frames_are

    entries_still : (more : List Object) → entries_of (new.objects ++ more) entries ≡ s.calls
    entries_still = still (λ all. entries_of all entries) s.calls objects new.objects grows s.entries_are

    goes_to : (v : Exp) (venv : List (ℕ × Object)) (visits left' : ℕ) → visits + left' ≡ left → (r : Thread) → thread ds A functions now.depth venv v s.kept ≡ Some r → Follows visits walked.walk r → Going w s.ground functions env t limit start left' (Visit v venv) s.stack s.kept new.objects
    goes_to v venv visits left' b r e f =
        let step = going_step w s.ground functions env t limit start left (Visit here here_env) s.stack s.kept objects now left' visits f.met (Visit v venv) s.stack s.kept b
        (leads_goes (IsIn now.walked.seen) Narrow ds A functions now.depth here here_env v venv s.stack s.kept visits walked.walk r walked.walks e f) in
        step.goes_on f.narrow new.objects advance_within

    -- its value is found at once
    pub advance_found : (y : Object) (visits left' : ℕ) → GivesAtOnce w.definitions functions (env_of objects uenv.value.items) (term_of u.now) y visits → visits + left' ≡ left → (id : Id) → IsIdOf new.objects y id
        → State w functions env t limit start left' (focus.Give id) frames new.objects entries
    advance_found y visits left' g b id is =
        let ends : Ends s.kept y visits walked.walk = subst (λ (e : List (ℕ × Object)). GivesAtOnce w.definitions functions e here y visits) env_same g now.depth s.kept walked.walk walked.walks in
        let step = going_step w s.ground functions env t limit start left (Visit here here_env) s.stack s.kept objects now left' (length walked.walk.seen) walked.walk.seen (Give walked.walk.value) s.stack s.kept (omega (arith, b, ends.count))
        (at_once_goes (IsIn now.walked.seen) Narrow ds A functions now.depth here here_env s.stack s.kept walked.walk walked.walks ends.calls) in
        record {
          focus = Give walked.walk.value;
          stack = s.stack;
          ground = s.ground;
          kept = s.kept;
          calls = s.calls;
          going = step.goes_on ends.narrow new.objects advance_within;
          focus_is = λ more. ap Give (stays_at new.objects more id is.0 ∙ (is.1 ∙ sym ends.value));
          frames_are = frames_still;
          entries_are = entries_still;
          right = s.right;
          same = s.same;
        }

    -- its walk goes on as that of another term
    pub advance_leads : (v : _) (inner : _) (visits left' : ℕ) → LeadsTo w.definitions functions (env_of objects uenv.value.items) (term_of u.now) (env_in (focus_of new.objects (focus.Visit v inner))) (term_of v.now) visits → visits + left' ≡ left → Every (λ b. IsLive new.objects b.value) inner.value.items
        → State w functions env t limit start left' (focus.Visit v inner) frames new.objects entries
    advance_leads v inner visits left' g b live =
        let inner_env = env_of new.objects inner.value.items in
        let l = subst (λ (e : List (ℕ × Object)). LeadsTo w.definitions functions e here inner_env (term_of v.now) visits) env_same g now.depth s.kept walked.walk walked.walks in
        record {
          focus = Visit (term_of v.now) inner_env;
          stack = s.stack;
          ground = s.ground;
          kept = s.kept;
          calls = s.calls;
          going = goes_to (term_of v.now) inner_env visits left' b l.0 l.1.0 l.1.1;
          focus_is = λ more. ap (Visit (term_of v.now)) (env_still new.objects inner.value.items live more);
          frames_are = frames_still;
          entries_are = entries_still;
          right = s.right;
          same = s.same;
        }

    -- nothing but the arena has changed
    pub advance_stuck : State w functions env t limit start left (focus.Visit u uenv) frames new.objects entries
    advance_stuck = record {
      focus = Visit here here_env;
      stack = s.stack;
      ground = s.ground;
      kept = s.kept;
      calls = s.calls;
      going = goes_to here here_env 0 left (omega arith) walked.walk walked.walks (follows_none walked.walk);
      focus_is = λ more. ap (Visit here) (still (λ all. env_of all uenv.value.items) here_env objects new.objects grows stands more);
      frames_are = frames_still;
      entries_are = entries_still;
      right = s.right;
      same = s.same;
    }

    -- there is no cell left for something that it sees
    pub advance_crowded : Lacks Sights new → IsCrowded w env t start new.limit
    advance_crowded lacks =
        let k = advance_sees in
        let c = lacks k.0 k.1.0 in
        going_crowded w s.ground functions env t limit start left (Visit here here_env) s.stack s.kept objects now new c.0 (k.1.1 c.0 c.1.0) c.1.1 adds.whole.different advance_within
