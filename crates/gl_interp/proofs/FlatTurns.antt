-- Values that are made without a path.
use Rattle.std.proofs.Common.{◌≡◌, ℕ, ◌+◌, Bool, true, false, not, List, [], ◌∷◌, ◌++◌, length, get_or, refl, ap, sym, ◌∙◌, cond, subst, Option, Some, None, IfSome, Bor}
use Rattle.bfr_store.specs.declared.edge.Edge.{Edge}
use Rattle.bfr_store.specs.declared.meaning.Meaning.{Ghosts}
use Rattle.gl_logic.specs.Object.{Object}
use Rattle.gl_logic.specs.ObjectEq.{is_nil}
use Rattle.gl_logic.specs.Environment.{look}
use Rattle.gl_logic.specs.Definition.{Definition}
use Rattle.gl_logic.specs.Exp.{Exp}
use Rattle.gl_logic.specs.Exp as exp
use Rattle.gl_logic.specs.TermOf.{term_of}
use Rattle.gl_logic.specs.Walk.{CallMade, Walk, then, ended, walk}
use Rattle.gl_logic.specs.declared.term.Term.{Term}
use Rattle.sym_objects.specs.declared.sob.Sob.{Sob}
use Rattle.sym_objects.specs.Seen.{SobsSeen, IsLive, stands_for}
use Rattle.sym_prims.specs.Applying.{Leaves}
use Rattle.gl_interp.specs.declared.envs.EnvId.{EnvId}
use Rattle.gl_interp.specs.declared.frame.Frame.{Frame}
use Rattle.gl_interp.specs.declared.frame.Frame.TheVariants as frame
use Rattle.gl_interp.specs.declared.frame.Focus.TheVariants as focus
use Rattle.gl_interp.specs.declared.frame.Path.{Path}
use Rattle.gl_interp.specs.Envs.{EnvsBelow, PairsBelow}
use Rattle.gl_interp.specs.Environments.{env_under, objects_of}
use Rattle.gl_interp.specs.FlatValues.{IsPlainValue, MayLook, StandsForBranches, StandsForTerm}
use Rattle.gl_interp.specs.Walking.{wrap, Makes}
use Rattle.gl_interp.specs.Running.{at, Ready, Turn}
use Rattle.sym_prims.proofs.Leaving.{leaves_then}
use Rattle.gl_interp.proofs.Walking.{wrap_some}
use Rattle.gl_interp.proofs.Turns.{pairs_below_more, objects_same, makes_kept, ready_kept}
use Rattle.gl_interp.proofs.VisitTurns.{envs_same}

pub plain_var : (env : List (ℕ × Object)) (v : ℕ) (x : Object) → look env v ≡ x → IsPlainValue env (exp.Var v) x
plain_var env v x e ds n = (record { value = look env v; seen = look env v ∷ []; made = [] }, (refl, e))

pub plain_const : (env : List (ℕ × Object)) (y x : Object) → x ≡ y → IsPlainValue env (exp.Const y) x
plain_const env y x e ds n = (record { value = y; seen = y ∷ []; made = [] }, (refl, sym e))

-- ---- the walk of an `if` whose branches both have values
picked : (b : Bool) (sa sb : Option Walk) (wa wb : Walk) (x y : Object) (seen : List Object) (made : List CallMade) → sa ≡ Some wa → wa.value ≡ x → sb ≡ Some wb → wb.value ≡ y
    → (w : Walk) × ((elim b as (λ _. Option Walk) [ true ↦ then sb (ended seen made) | false ↦ then sa (ended seen made) ] ≡ Some w) × (w.value ≡ cond (not b) x y))
picked true sa sb wa wb x y seen made e p h q = (record { value = wb.value; seen = seen ++ wb.seen ++ wb.value ∷ []; made = made ++ wb.made }, (ap (λ o. then o (ended seen made)) h, q))
picked false sa sb wa wb x y seen made e p h q = (record { value = wa.value; seen = seen ++ wa.seen ++ wa.value ∷ []; made = made ++ wa.made }, (ap (λ o. then o (ended seen made)) e, p))

pub plain_if : (env : List (ℕ × Object)) (t a b : Exp) (v x y : Object) → IsPlainValue env t v → IsPlainValue env a x → IsPlainValue env b y → IsPlainValue env (exp.If t a b) (cond (not (is_nil v)) x y)
plain_if env t a b v x y ht ha hb ds n =
    let wt = ht ds n in
    let wa = ha ds n in
    let wb = hb ds n in
    let p = picked (is_nil wt.0.value) (walk ds n env a) (walk ds n env b) wa.0 wb.0 x y wt.0.seen wt.0.made wa.1.0 wa.1.1 wb.1.0 wb.1.1 in (
      p.0,
      (
        ap (λ o. then o (λ (r : Walk). elim (is_nil r.value) as (λ _. Option Walk) [ true ↦ then (walk ds n env b) (ended r.seen r.made) | false ↦ then (walk ds n env a) (ended r.seen r.made) ])) wt.1.0 ∙ p.1.0,
        p.1.1 ∙ ap (λ z. cond (not (is_nil z)) x y) wt.1.1,
      ),
    )

pub got : {A : Type 0} (P : A → Type 0) (o : Option A) (x : A) → o ≡ Some x → IfSome o P → P x
got P o x e h = subst (λ q. IfSome q P) e h

pub some_then : {A : Type 0} (P Q : A → Type 0) (o : Option A) → ((x : A) → P x → Q x) → IfSome o P → IfSome o Q
some_then P Q (Some x) f h = f x h
some_then P Q None f h = tt

pub look_after : {B : Type 0} (g : Ghosts B) (old new : SobsSeen B) (es : List (List (ℕ × Sob))) (env : ℕ) → Leaves g old new → MayLook old es env → MayLook new es env
look_after g old new es env kept l = record { below = λ i. pairs_below_more _ _ kept.grows.no_fewer (get_or es i []) (l.below i); live = l.live }

-- ---- over what was kept
module _ {B : Type 0} (g : Ghosts B) (env : List (ℕ × Sob)) (e : Exp) where
  pub env_kept : (old new : SobsSeen B) → Leaves g old new → PairsBelow (length old.nodes) env → (a : ℕ → Bool) → env_under g new env a ≡ env_under g old env a
  env_kept old new kept below a = objects_same (λ x. stands_for g old x a) (λ x. stands_for g new x a) (length old.nodes) (λ x h. kept.grows.same x a h) env below

  -- the environment was there before
  pub term_before : (first old new : SobsSeen B) (r : Sob) → Leaves g first old → PairsBelow (length first.nodes) env → StandsForTerm g old new env e r → StandsForTerm g first new env e r
  term_before first old new r kept below s a = subst (λ u. IsPlainValue u e (stands_for g new r a)) (env_kept first old kept below a) (s a)

  -- the object stays
  pub term_after : (old new last : SobsSeen B) (r : Sob) → Leaves g new last → IsLive new r → StandsForTerm g old new env e r → StandsForTerm g old last env e r
  term_after old new last r kept live s a = subst (λ x. IsPlainValue (env_under g old env a) e x) (sym (kept.grows.same r a live)) (s a)

-- ---- one call after another
module _ {B : Type 0} (g : Ghosts B) (env : List (ℕ × Sob)) where
  pub stands_if : (s0 s1 s2 s3 s4 s5 : SobsSeen B) (e t a b : Exp) (x y z r : Sob) (test : (ℕ → Bool) → Bool) → Leaves g s0 s1 → Leaves g s1 s2 → Leaves g s2 s3 → Leaves g s3 s4 → PairsBelow (length s0.nodes) env → e ≡ exp.If t a b
      → IsLive s1 x → IsLive s2 y → IsLive s3 z → StandsForTerm g s0 s1 env t x → StandsForTerm g s1 s2 env a y → StandsForTerm g s2 s3 env b z
      → ((v : ℕ → Bool) → test v ≡ not (is_nil (stands_for g s3 x v))) → ((v : ℕ → Bool) → stands_for g s5 r v ≡ cond (test v) (stands_for g s4 y v) (stands_for g s4 z v))
      → StandsForTerm g s0 s5 env e r
  stands_if s0 s1 s2 s3 s4 s5 e t a b x y z r test l0 l1 l2 l3 below is lx ly lz ht ha hb says means v =
      let l01 = leaves_then g s0 s1 s2 l0 l1 in
      let l12 = leaves_then g s1 s2 s3 l1 l2 in
      let l23 = leaves_then g s2 s3 s4 l2 l3 in
      let h = plain_if (env_under g s0 env v) t a b (stands_for g s1 x v) (stands_for g s2 y v) (stands_for g s3 z v) (ht v)
      (subst (λ u. IsPlainValue u a (stands_for g s2 y v)) (env_kept g env a s0 s1 l0 below v) (ha v))
      (subst (λ u. IsPlainValue u b (stands_for g s3 z v)) (env_kept g env b s0 s2 l01 below v) (hb v)) in
      let tested : test v ≡ not (is_nil (stands_for g s1 x v)) = says v ∙ ap (λ o. not (is_nil o)) (l12.grows.same x v lx) in
      let same : stands_for g s5 r v ≡ cond (not (is_nil (stands_for g s1 x v))) (stands_for g s2 y v) (stands_for g s3 z v) = means v ∙ (λ i. cond (tested i) (l23.grows.same y v ly i) (l3.grows.same z v lz i)) in
      subst (λ q. IsPlainValue (env_under g s0 env v) q (stands_for g s5 r v)) (sym is) (subst (λ q. IsPlainValue (env_under g s0 env v) (exp.If t a b) q) (sym same) h)

  pub stands_branches : (s0 s1 s2 s3 : SobsSeen B) (a b : Exp) (y z r : Sob) (test : (ℕ → Bool) → Bool) → Leaves g s0 s1 → Leaves g s1 s2 → PairsBelow (length s0.nodes) env
      → IsLive s1 y → StandsForTerm g s0 s1 env a y → StandsForTerm g s1 s2 env b z → ((v : ℕ → Bool) → stands_for g s3 r v ≡ cond (test v) (stands_for g s2 y v) (stands_for g s2 z v))
      → StandsForBranches g s0 s3 env test a b r
  stands_branches s0 s1 s2 s3 a b y z r test l0 l1 below ly ha hb means = record {
    first = λ v. stands_for g s2 y v;
    second = λ v. stands_for g s2 z v;
    is_first = term_after g env a s0 s1 s2 y l1 ly ha;
    is_second = term_before g env b s0 s1 s2 z l0 below hb;
    stands = means;
  }

-- ---- the turn
module _ {B : Type 0} (g : Ghosts B) (ds : List Definition) (start : Edge) (path : Path) (old one new : SobsSeen B) (es : List (List (ℕ × Sob))) (fs : List Frame) (first : Leaves g old one) (kept : Leaves g old new) where
  wider : EnvsBelow (length old.nodes) es → EnvsBelow (length new.nodes) es
  wider l i = pairs_below_more _ _ kept.grows.no_fewer (get_or es i []) (l i)

  -- both branches are done at once
  pub turn_merged : (a b : Bor Term) (env : EnvId) (n : ℕ) (x : Sob) (test : (ℕ → Bool) → Bool) (r : Sob) → Ready g old es start path (frame.Test a b env n ∷ fs) (focus.Give x)
      → ((z : ℕ → Bool) → test z ≡ not (is_nil (stands_for g old x z))) → IsLive new r
      → StandsForBranches g one new (get_or es env.number []) test (term_of a.now) (term_of b.now) r
      → Turn g ds start old es (frame.Test a b env n ∷ fs) (focus.Give x) new es path fs (focus.Give r)
  turn_merged a b env n x test r d says live both =
      let inner : Ready g old es start path fs (focus.Give x) = record { whole = d.whole; envs = d.envs; some_env = d.some_env; start_live = d.start_live; path_live = d.path_live; frames = d.frames.1; focus = d.focus; is_path = d.is_path; witnessed = d.witnessed; paths = d.paths } in
      record {
        envs_kept = envs_same es;
        ready = ready_kept g start old new es es kept (envs_same es) (wider d.envs) path fs (focus.Give x) (focus.Give r) inner live;
        makes = λ k z whole s p.
            let v = at g ds k old es z in
            let q = p.0 in
            let ws = p.1.1.0 in
            let u : List (ℕ × Object) = objects_of (λ y. stands_for g old y z) (get_or es env.number []) in
            let same : env_under g one (get_or es env.number []) z ≡ u = env_kept g (get_or es env.number []) (term_of a.now) old one first (d.envs env.number) z in
            let wa = subst (λ e. IsPlainValue e (term_of a.now) (both.first z)) same (both.is_first z) ds (n + k) in
            let wb = subst (λ e. IsPlainValue e (term_of b.now) (both.second z)) same (both.is_second z) ds (n + k) in
            let w = picked (is_nil q.value) (walk ds (n + k) u (term_of a.now)) (walk ds (n + k) u (term_of b.now)) wa.0 wb.0 (both.first z) (both.second z) q.seen q.made wa.1.0 wa.1.1 wb.1.0 wb.1.1 in
            let o = wrap_some ws w.0 in
            let made : Makes v fs whole (Some o.0) = subst (λ y. Makes v fs whole y) (ap (wrap ws) w.1.0 ∙ o.1.0) p.1.1.1 in
            let tested : not (is_nil q.value) ≡ test z = ap (λ y. not (is_nil y)) p.1.0 ∙ sym (says z) in (
              o.0,
              (
                o.1.1 ∙ (w.1.1 ∙ (ap (λ c. cond c (both.first z) (both.second z)) tested ∙ sym (both.stands z))),
                makes_kept g start old new es es kept (envs_same es) (wider d.envs) ds k z fs whole (Some o.0) d.envs d.frames.1 made,
              ),
            );
      }
