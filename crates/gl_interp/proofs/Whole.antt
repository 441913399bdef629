-- The interpreter from its start to its end.
use Rattle.std.proofs.Common.{◌≡◌, ℕ, zero, suc, ◌+◌, ◌<◌, Bool, true, false, ◌&&◌, List, [], ◌∷◌, length, get_or, refl, ap, sym, ◌∙◌, arith, subst, Some, None, Bor, ◌⊎◌, inl, inr, Ok, Err}
use Rattle.bfr_store.specs.declared.meaning.Meaning.{Ghosts}
use Rattle.gl_logic.specs.Assignments.{value_at}
use Rattle.gl_logic.specs.Object.{Object}
use Rattle.gl_logic.specs.Definition.{Definition}
use Rattle.gl_logic.specs.Evaluate.{HasValue}
use Rattle.gl_logic.specs.Exp.{Exp}
use Rattle.gl_logic.specs.IsTermOf.{IsTermOf}
use Rattle.gl_logic.specs.IsTotal.{IsTotal}
use Rattle.gl_logic.specs.TermOf.{term_of}
use Rattle.gl_logic.specs.Walk.{Walk, then, walk}
use Rattle.gl_logic.specs.declared.term.Term.{Term}
use Rattle.gl_logic.proofs.Optional.{none_some}
use Rattle.gl_logic.proofs.Walks.{walk_deeper, walk_of_value}
use Rattle.sym_objects.specs.declared.sob.Sob.{Sob}
use Rattle.sym_objects.specs.Seen.{SobsSeen, stands_for}
use Rattle.sym_prims.specs.Applying.{Leaves}
use Rattle.sym_prims.proofs.Leaving.{leaves_then}
use Rattle.lisp_eval.specs.Machines.{MachineSeen}
use Rattle.gl_interp.specs.declared.envs.EnvId.{EnvId}
use Rattle.gl_interp.specs.declared.frame.Path.{Path}
use Rattle.gl_interp.specs.declared.frame.Frame.{Frame}
use Rattle.gl_interp.specs.declared.frame.Focus.{Focus}
use Rattle.gl_interp.specs.declared.frame.Focus.TheVariants as focus
use Rattle.gl_interp.specs.declared.fault.GlFault.{GlFault}
use Rattle.gl_interp.specs.Causes.{HasCause, Interprets, IsOnPath, Rests, Task}
use Rattle.gl_interp.specs.Envs.{EnvsBelow, PairsBelow}
use Rattle.gl_interp.specs.Environments.{AreLive, env_under}
use Rattle.gl_interp.specs.Walking.{FocusMakes}
use Rattle.gl_interp.specs.Running.{at, AreTerms, FocusLive, IsWitnessed, Ready, Turn, Turns}
use Rattle.gl_interp.specs.Whole.{Running, whole_at}
use Rattle.gl_interp.proofs.Machines.{rests_none, rests_then}
use Rattle.gl_interp.proofs.Turns.{objects_same, pairs_below_more, turns_of}
use Rattle.std.specs.List.{All}

-- a test that is true is true with what is true of the whole
and_true_left : (a b : Bool) → (a && b) ≡ true → a ≡ true
and_true_left true b h = refl
and_true_left false b h = h

and_with_true : (a : Bool) → a ≡ (a && true)
and_with_true true = refl
and_with_true false = refl

-- a term's walk at this depth with so much added, where it has a value at another
pub record HasWalkFrom (ds : List Definition) (env : List (ℕ × Object)) (t : Exp) (clock : ℕ) : Type 0 where
  pub more : ℕ
  pub run : Walk
  pub walks : walk ds (clock + more) env t ≡ Some run

pub walk_from : (ds : List Definition) → IsTotal ds → (env : List (ℕ × Object)) (t : Exp) (clock : ℕ) → IsTermOf ds t → HasWalkFrom ds env t clock
walk_from ds total env t clock h =
    let v = total env t h in
    let r = walk_of_value ds v.1.0 env t v.0 v.1.1 in
    record { more = v.1.0; run = r.0; walks = walk_deeper ds v.1.0 (clock + v.1.0) env t r.0 (omega arith) r.1.0 }

-- ---- the start
pub pairs_below : (n : ℕ) (env : List (ℕ × Sob)) → All (λ p. p.1.number < n) env → PairsBelow n env
pairs_below n [] h = tt
pairs_below n (p ∷ env) h = (h 0 p (omega arith), pairs_below n env (λ i d l. h (suc i) d (omega (arith, l))))

no_envs : (n : ℕ) → EnvsBelow n ([] ∷ [])
no_envs n zero = tt
no_envs n (suc i) = tt

module _ {B : Type 0} (g : Ghosts B) (old : SobsSeen B) (t : Task) where
  pub running_start : (now : SobsSeen B) (machine : MachineSeen) (es : List (List (ℕ × Sob))) (onward : Path) (e : EnvId) (b : Bor Term)
      → Leaves g old now → machine ≡ t.machine → IsTotal t.world.definitions → IsTermOf t.world.definitions t.term → g.live old.store t.path
      → Ready g now es t.path onward [] (focus.Visit b e t.clock) → t.term ≡ term_of b.now → ((a : ℕ → Bool) → env_under g now (get_or es e.number []) a ≡ env_under g old t.env a)
      → Running g old t now machine es onward [] (focus.Visit b e t.clock)
  running_start now machine es onward e b leaves same total is_term live ready term env = record {
    leaves = leaves;
    rests = subst (λ m. Rests t.machine m) (sym same) (rests_none t.machine);
    total = total;
    is_term = is_term;
    start_live = live;
    ready = ready;
    terms = record { frames = tt; focus = subst (λ u. IsTermOf t.world.definitions u) term is_term };
    makes = λ k a s. inl ([], λ i. walk t.world.definitions (t.clock + k) (env a i) (sym term i));
  }

  pub running_begin : (first now : SobsSeen B) (none es : List (List (ℕ × Sob))) (onward : Path) (e : EnvId) (b : Bor Term) → first ≡ old → Leaves g old now → IsTotal t.world.definitions → IsTermOf t.world.definitions t.term → g.live old.store t.path → AreLive old t.env
      → none ≡ [] ∷ [] → e.number < length es → get_or es e.number [] ≡ t.env → ((n : ℕ) → EnvsBelow n none → PairsBelow n t.env → EnvsBelow n es)
      → onward.edge ≡ t.path → IsWitnessed (g.truth_of now.store) (g.width_of now.store) onward → t.term ≡ term_of b.now → Running g old t now t.machine es onward [] (focus.Visit b e t.clock)
  running_begin first now none es onward e b same k total is_term live lives empty less bound below edge is_witnessed term =
      let old_pairs : PairsBelow (length old.nodes) t.env = pairs_below (length old.nodes) t.env lives in
      let pairs : PairsBelow (length now.nodes) t.env = pairs_below_more (length old.nodes) (length now.nodes) k.grows.no_fewer t.env old_pairs in
      let start : g.live now.store t.path = k.grows.store.stays t.path live in
      let ready : Ready g now es t.path onward [] (focus.Visit b e t.clock) = record {
        whole = k.grows.whole;
        envs = below (length now.nodes) (subst (λ ls. EnvsBelow (length now.nodes) ls) (sym empty) (no_envs (length now.nodes))) pairs;
        some_env = omega (arith, less);
        start_live = start;
        path_live = subst (λ c. g.live now.store c) (sym edge) start;
        frames = tt;
        focus = less;
        is_path = record { says = λ a. ap (λ c. g.truth_of now.store c a) edge ∙ and_with_true (g.truth_of now.store t.path a) };
        witnessed = is_witnessed;
        paths = tt;
      } in
      running_start now t.machine es onward e b k refl total is_term live ready term
      (λ a. ap (λ ps. env_under g now ps a) bound ∙ objects_same (λ x. stands_for g old x a) (λ x. stands_for g now x a) (length old.nodes) (λ x h. k.grows.same x a h) t.env old_pairs)

  pub running_then : (now new : SobsSeen B) (machine next : MachineSeen) (es later : List (List (ℕ × Sob))) (path onward : Path) (fs hs : List Frame) (f h : Focus) → Running g old t now machine es path fs f → Leaves g now new → Rests machine next
      → Turns g t.world.definitions t.path now es fs f new later onward hs h → AreTerms t.world.definitions hs h
      → Running g old t new next later onward hs h
  running_then now new machine next es later path onward fs hs f h r k s m terms = record {
    leaves = leaves_then g old now new r.leaves k;
    rests = rests_then t.machine machine next r.rests s;
    total = r.total;
    is_term = r.is_term;
    start_live = r.start_live;
    ready = m.ready;
    terms = terms;
    makes = λ j a on. elim (r.makes j a on) [
      | inl p ↦ m.makes j a (whole_at g old t j a) (r.leaves.grows.store.same t.path a r.start_live ∙ on) p
      | inr e ↦ inr e
    ];
  }

  -- the same of equal frames and an equal focus
  pub running_turn : (now new : SobsSeen B) (machine after : MachineSeen) (es later : List (List (ℕ × Sob))) (path onward : Path) (gs fs hs : List Frame) (e f h : Focus) → Running g old t now machine es path gs e → gs ≡ fs → e ≡ f → Leaves g now new → Rests machine after
      → Turns g t.world.definitions t.path now es fs f new later onward hs h → AreTerms t.world.definitions hs h → Running g old t new after later onward hs h
  running_turn now new machine after es later path onward gs fs hs e f h r i j k s u terms =
      let before : Running g old t now machine es path fs f = subst (λ z. Running g old t now machine es path fs z) j (subst (λ z. Running g old t now machine es path z e) i r) in
      running_then now new machine after es later path onward fs hs f h before k s u terms

  -- a turn that keeps what the frames make
  pub running_plain : (now new : SobsSeen B) (machine after : MachineSeen) (es later : List (List (ℕ × Sob))) (path onward : Path) (gs fs hs : List Frame) (e f h : Focus) → Running g old t now machine es path gs e → gs ≡ fs → e ≡ f → Leaves g now new → Rests machine after
      → Turn g t.world.definitions t.path now es fs f new later onward hs h → (AreTerms t.world.definitions fs f → AreTerms t.world.definitions hs h) → Running g old t new after later onward hs h
  running_plain now new machine after es later path onward gs fs hs e f h r i j k s u terms =
      let before : Running g old t now machine es path fs f = subst (λ z. Running g old t now machine es path fs z) j (subst (λ z. Running g old t now machine es path z e) i r) in
      running_then now new machine after es later path onward fs hs f h before k s (turns_of g t.world.definitions t.path now new es later onward fs hs f h u) (terms before.terms)

  -- nothing is left: the object is the value
  pub running_done : (now : SobsSeen B) (machine : MachineSeen) (es : List (List (ℕ × Sob))) (path : Path) (fs : List Frame) (f : Focus) (x : Sob) → Running g old t now machine es path fs f → fs ≡ [] → f ≡ focus.Give x → (a : ℕ → Bool) → g.truth_of old.store t.path a ≡ true
      → HasValue t.world.definitions (env_under g old t.env a) t.term (stands_for g now x a)
  running_done now machine es path fs f x r e i a s =
      let ds = t.world.definitions in
      let w = walk_from ds r.total (env_under g old t.env a) t.term t.clock r.is_term in
      let whole = whole_at g old t w.more a in
      let p : FocusMakes (at g ds w.more now es a) [] whole (focus.Give x) ⊎ (whole ≡ None) =
      subst (λ h. FocusMakes (at g ds w.more now es a) [] whole h ⊎ (whole ≡ None)) i (subst (λ hs. FocusMakes (at g ds w.more now es a) hs whole f ⊎ (whole ≡ None)) e (r.makes w.more a s)) in
      elim p [
        | inl q ↦ (t.clock + w.more, ap (λ o. then o (λ v. Some v.value)) (sym q.1.1) ∙ ap Some q.1.0)
        | inr n ↦ none_some w.run (sym n ∙ w.walks)
      ]

  pub interprets_ok : (now : SobsSeen B) (machine : MachineSeen) (es : List (List (ℕ × Sob))) (path : Path) (fs : List Frame) (f : Focus) (x : Sob) → Running g old t now machine es path fs f → fs ≡ [] → f ≡ focus.Give x → Interprets g old now t (Ok x)
  interprets_ok now machine es path fs f x r e i = record {
    leaves = r.leaves;
    live = subst (λ h. FocusLive (length now.nodes) (length es) h) i r.ready.focus;
    value = λ a s. running_done now machine es path fs f x r e i a s;
    cause = tt;
  }

  pub interprets_err : (new : SobsSeen B) (c : GlFault) → Leaves g old new → HasCause g old new t c → Interprets g old new t (Err c)
  interprets_err new c k h = record { leaves = k; live = tt; value = tt; cause = h }

  -- an assignment of the path is one of the whole's
  pub on_start : (now new : SobsSeen B) (machine : MachineSeen) (es : List (List (ℕ × Sob))) (path : Path) (fs : List Frame) (f : Focus) (b : List Bool) → Running g old t now machine es path fs f → Leaves g now new → IsOnPath g new path.edge b → IsOnPath g old t.path b
  on_start now new machine es path fs f b r k h =
      let a = value_at b in
      let here : g.truth_of now.store path.edge a ≡ true = sym (k.grows.store.same path.edge a r.ready.path_live) ∙ h.1 in
      (h.0 ∙ (k.width ∙ r.leaves.width), sym (r.leaves.grows.store.same t.path a r.start_live) ∙ and_true_left _ _ (sym (r.ready.is_path.says a) ∙ here))
