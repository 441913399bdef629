-- Turns that leave the path with another edge, or end where no assignment reaches it.
use Rattle.std.proofs.Common.{◌≡◌, ℕ, ◌+◌, Bool, false, ◌&&◌, List, [], length, get_or, refl, ap, sym, ◌∙◌, subst, Option, Some, None, IfSome, IsSome, MatchOption, Result, Ok, IfOk, Vec, Global}
use Rattle.bfr_store.specs.declared.edge.Edge.{Edge}
use Rattle.bfr_store.specs.declared.meaning.Meaning.{Ghosts}
use Rattle.gl_logic.specs.Definition.{Definition}
use Rattle.gl_logic.specs.Object.{Object}
use Rattle.gl_logic.specs.Walk.{Walk}
use Rattle.sym_objects.specs.declared.sob.Sob.{Sob}
use Rattle.sym_objects.specs.Seen.{SobsSeen, IsLive, stands_for}
use Rattle.lisp_eval.specs.Machines.{MachineSeen}
use Rattle.sym_prims.specs.Applying.{Leaves}
use Rattle.gl_logic.specs.declared.ids.FnId.{FnId}
use Rattle.gl_interp.specs.declared.envs.EnvId.{EnvId}
use Rattle.gl_interp.specs.declared.frame.Work.{Work}
use Rattle.gl_interp.specs.declared.frame.Work.TheVariants as work
use Rattle.gl_interp.specs.declared.frame.Frame.{Frame}
use Rattle.gl_interp.specs.declared.frame.Focus.{Focus}
use Rattle.gl_interp.specs.declared.frame.Focus.TheVariants as focus
use Rattle.gl_interp.specs.declared.frame.Path.{Path}
use Rattle.gl_interp.specs.Branches.{IsAgain}
use Rattle.gl_interp.specs.Causes.{Task}
use Rattle.gl_interp.specs.Environments.{objects_of}
use Rattle.gl_interp.specs.Envs.{EnvsBelow}
use Rattle.gl_interp.specs.Walking.{At, wrap, worked, FocusMakes, Makes, reached}
use Rattle.gl_interp.specs.Running.{at, IsAsked, IsFocusOf, IsGiven, IsWitness, IsWorkOf, Ready, Turn}
use Rattle.gl_interp.specs.Whole.{Running}
use Rattle.gl_interp.proofs.Machines.{rests_none}
use Rattle.gl_interp.proofs.Walking.{map_same, unreached}
use Rattle.gl_interp.proofs.Turns.{all_below_more, env_same, found_moves, pairs_below_more, turn_kept}
use Rattle.gl_interp.proofs.VisitTurns.{envs_same}
use Rattle.gl_interp.proofs.Whole.{running_plain}

pub ok_some : {A E : Type 0} (r : Result (Option A) E) (x : A) (P : A → Type 0) → r ≡ Ok (Some x) → IfOk r (λ o. IfSome o P) → P x
ok_some r x P e h = subst (λ q. IfOk q (λ o. IfSome o P)) e h

pub ok_holds : {A E : Type 0} (r : Result A E) (x : A) (P : Type 0) → r ≡ Ok x → IfOk r (λ _. P) → P
ok_holds r x P e h = subst (λ q. IfOk q (λ _. P)) e h

pub ok_match_some : {A E : Type 0} (r : Result (Option A) E) (x : A) (N : Type 0) (P : A → Type 0) → r ≡ Ok (Some x) → IfOk r (λ o. MatchOption o N P) → P x
ok_match_some r x N P e h = subst (λ q. IfOk q (λ o. MatchOption o N P)) e h

pub ok_match_none : {A E : Type 0} (r : Result (Option A) E) (N : Type 0) (P : A → Type 0) → r ≡ Ok None → IfOk r (λ o. MatchOption o N P) → N
ok_match_none r N P e h = subst (λ q. IfOk q (λ o. MatchOption o N P)) e h

-- the frames make the whole of some walk of the focus
some_walk : (v : At) (fs : List Frame) (whole : Option Walk) (f : Focus) → FocusMakes v fs whole f → (o : Option Walk) × Makes v fs whole o
some_walk v fs whole (focus.Visit t env n) p = (_, p.1)
some_walk v fs whole (focus.Next w done ts env n) p = (_, p.1.1.1)
some_walk v fs whole (focus.Run w args env n) p = (_, p.1.1.1)
some_walk v fs whole (focus.Give x) p = (_, p.1.1)

module _ {B : Type 0} (g : Ghosts B) (ds : List Definition) (start : Edge) (path : Path) (old new : SobsSeen B) (es : List (List (ℕ × Sob))) (kept : Leaves g old new) (fs : List Frame) where
  below : EnvsBelow (length old.nodes) es → EnvsBelow (length new.nodes) es
  below l i = pairs_below_more _ _ kept.grows.no_fewer (get_or es i []) (l i)

  -- where no assignment reaches the path, any object may be given for what is left of a term
  pub turn_dropped : (f : Focus) (x : Sob) → Ready g old es start path fs f → ((a : ℕ → Bool) → g.truth_of old.store path.edge a ≡ false) → IsLive new x → Turn g ds start old es fs f new es path fs (focus.Give x)
  turn_dropped f x r never l =
      turn_kept g start old new es es kept (envs_same es) (below r.envs) ds path fs f (focus.Give x) r l
      (λ k a whole s p.
      let v = at g ds k old es a in
      let made = some_walk v fs whole f p in
      let w : Walk = record { value = stands_for g new x a; seen = []; made = [] } in
      let out : reached v.truth fs ≡ false = sym (r.is_path.says a ∙ ap (λ y. y && reached v.truth fs) s) ∙ never a in
      (Some w, (unreached v fs whole made.0 (Some w) out made.1, λ z. (w, (refl, z)))))

  -- a work stays to be done over more nodes
  pub turn_waiting : (w : Work) (args : Vec Sob Global) (env : EnvId) (n : ℕ) → Ready g old es start path fs (focus.Run w args env n) → Turn g ds start old es fs (focus.Run w args env n) new es path fs (focus.Run w args env n)
  turn_waiting w args env n r =
      turn_kept g start old new es es kept (envs_same es) (below r.envs) ds path fs (focus.Run w args env n) (focus.Run w args env n) r (all_below_more _ _ kept.grows.no_fewer args.items r.focus.0, r.focus.1)
      (λ k a whole s p.
      let u : List (ℕ × Object) = objects_of (λ y. stands_for g old y a) (get_or es env.number []) in
      let rs = p.1.0 in
      let same = env_same g start old new es es kept (envs_same es) (below r.envs) a r.envs env.number r.focus.1 in (
        wrap p.0 (worked ds (n + k) u w rs),
        (
          p.1.1.1,
          λ z. (
            p.0,
            (
              rs,
              (
                p.1.1.0 ∙ map_same (λ x. stands_for g old x a) (λ x. stands_for g new x a) (length old.nodes) (λ x h. kept.grows.same x a h) args.items r.focus.0,
                subst (λ e. Makes (at g ds k new es a) fs whole (wrap p.0 (worked ds (n + k) e w rs))) (sym same) z,
              ),
            ),
          ),
        ),
      ))

-- the same turn, where the path is left with an equal edge, or an assignment
pub turn_onward : {B : Type 0} (g : Ghosts B) (ds : List Definition) (start : Edge) (path onward : Path) (old middle new : SobsSeen B) (es later : List (List (ℕ × Sob))) (fs hs : List Frame) (f h : Focus) → IsAgain g middle new path onward → ((a : ℕ → Bool) → g.truth_of new.store path.edge a ≡ g.truth_of middle.store path.edge a)
    → Turn g ds start old es fs f new later path hs h → Turn g ds start old es fs f new later onward hs h
turn_onward g ds start path onward old middle new es later fs hs f h again same t = record {
  envs_kept = t.envs_kept;
  ready = record {
    whole = t.ready.whole;
    envs = t.ready.envs;
    some_env = t.ready.some_env;
    start_live = t.ready.start_live;
    path_live = again.live;
    frames = t.ready.frames;
    focus = t.ready.focus;
    is_path = record { says = λ a. again.says a ∙ (sym (same a) ∙ t.ready.is_path.says a) };
    witnessed = again.is_witnessed;
    paths = t.ready.paths;
  };
  makes = t.makes;
}

-- the same path over more nodes
pub again_kept : {B : Type 0} (g : Ghosts B) (old middle new : SobsSeen B) (path onward : Path) → IsAgain g old middle path onward → Leaves g middle new → IsAgain g old new path onward
again_kept g old middle new path onward again kept = record {
  live = kept.grows.store.stays onward.edge again.live;
  says = λ a. kept.grows.store.same onward.edge a again.live ∙ again.says a;
  is_witnessed = found_moves (g.truth_of middle.store) (g.truth_of new.store) (g.width_of middle.store) (g.width_of new.store) onward.edge onward.edge kept.width (λ a p. kept.grows.store.same onward.edge a again.live ∙ p) onward.found again.is_witnessed;
}

-- a call is known at its end where its path has an assignment
pub asked_known : (w : Work) (n : ℕ) (path : Path) → IsSome path.found → IsAsked w n path
asked_known (work.Prim p) n path h = tt
asked_known (work.Let names b) n path h = tt
asked_known (work.Call f) n path h = λ _. h

-- where no definition may be opened for a call, its path has an assignment
pub asked_call : (w : Work) (f : FnId) (n : ℕ) (path : Path) → w ≡ work.Call f → n ≡ 0 → IsAsked w n path → IsSome path.found
asked_call w f n path kind zero_clock h = subst (λ k. IsAsked k n path) kind h zero_clock

-- an assignment has as many values as the store has variables
pub found_counts : (t : Edge → (ℕ → Bool) → Bool) (width later : ℕ) (e : Edge) → later ≡ width → (o : Option (List Bool)) → IfSome o (λ w. IsWitness t width e w) → IfSome o (λ w. length w ≡ later)
found_counts t width later e same None h = tt
found_counts t width later e same (Some w) h = h.count ∙ sym same

-- ---- the interpreter, where the path of a work was asked
module _ {B : Type 0} (g : Ghosts B) (old : SobsSeen B) (t : Task) (now : SobsSeen B) (machine : MachineSeen) (es : List (List (ℕ × Sob))) (path : Path) (fs : List Frame) (e : Focus) (w : Work) (args : Vec Sob Global) (env : EnvId) (n : ℕ) (r : Running g old t now machine es path fs e) (is : e ≡ focus.Run w args env n) where
  ready : Ready g now es t.path path fs (focus.Run w args env n)
  ready = subst (λ f. Ready g now es t.path path fs f) is r.ready

  pub is_work : IsWorkOf t.world.definitions (length args.items) w
  is_work = subst (λ f. IsFocusOf t.world.definitions f) is r.terms.focus

  module _ (new : SobsSeen B) (onward : Path) (kept : Leaves g now new) (again : IsAgain g now new path onward) where
    same_path : (a : ℕ → Bool) → g.truth_of new.store path.edge a ≡ g.truth_of now.store path.edge a
    same_path a = kept.grows.store.same path.edge a r.ready.path_live

    -- it is to be done
    pub running_asked : Running g old t new machine es onward fs (focus.Run w args env n)
    running_asked =
        running_plain g old t now new machine machine es es path onward fs fs fs e (focus.Run w args env n) (focus.Run w args env n) r refl is kept (rests_none machine)
        (turn_onward g t.world.definitions t.path path onward now now new es es fs fs (focus.Run w args env n) (focus.Run w args env n) again same_path (turn_waiting g t.world.definitions t.path path now new es kept fs w args env n ready)) (λ h. h)

    -- no assignment reaches it
    running_dropped : (x : Sob) → ((a : ℕ → Bool) → g.truth_of now.store path.edge a ≡ false) → IsLive new x → Running g old t new machine es onward fs (focus.Give x)
    running_dropped x never l =
        running_plain g old t now new machine machine es es path onward fs fs fs e (focus.Run w args env n) (focus.Give x) r refl is kept (rests_none machine)
        (turn_onward g t.world.definitions t.path path onward now now new es es fs fs (focus.Run w args env n) (focus.Give x) again same_path (turn_dropped g t.world.definitions t.path path now new es kept fs (focus.Run w args env n) x ready never l)) (λ h. record { frames = h.frames; focus = tt })

    pub running_given : (h : Focus) → ((a : ℕ → Bool) → g.truth_of now.store path.edge a ≡ false) → IsGiven new h → Running g old t new machine es onward fs h
    running_given (focus.Visit u i k) never l = absurd l
    running_given (focus.Next v done ts i k) never l = absurd l
    running_given (focus.Run v xs i k) never l = absurd l
    running_given (focus.Give x) never l = running_dropped x never l
