-- The turns of a test.
use Rattle.std.proofs.Common.{◌≡◌, ℕ, ◌+◌, Bool, true, false, not, ◌&&◌, cond, List, [], ◌∷◌, length, get_or, refl, ap, sym, ◌∙◌, subst, Option, Bor}
use Rattle.bfr_store.specs.declared.edge.Edge.{Edge}
use Rattle.bfr_store.specs.declared.meaning.Meaning.{Ghosts}
use Rattle.gl_logic.specs.Object.{Object}
use Rattle.gl_logic.specs.ObjectEq.{is_nil}
use Rattle.gl_logic.specs.Definition.{Definition}
use Rattle.gl_logic.specs.TermOf.{term_of}
use Rattle.gl_logic.specs.Walk.{Walk, walk}
use Rattle.gl_logic.specs.declared.term.Term.{Term}
use Rattle.sym_objects.specs.declared.sob.Sob.{Sob}
use Rattle.sym_objects.specs.Seen.{SobsSeen, stands_for}
use Rattle.sym_prims.specs.Applying.{Leaves}
use Rattle.gl_interp.specs.declared.envs.EnvId.{EnvId}
use Rattle.gl_interp.specs.declared.frame.Frame.{Frame}
use Rattle.gl_interp.specs.declared.frame.Frame.TheVariants as frame
use Rattle.gl_interp.specs.declared.frame.Focus.TheVariants as focus
use Rattle.gl_interp.specs.declared.frame.Path.{Path}
use Rattle.gl_interp.specs.declared.results.Branches.{Branches}
use Rattle.gl_interp.specs.declared.results.Branches.TheVariants as branches
use Rattle.gl_interp.specs.Branches.{IsPartOf, IsSplit}
use Rattle.gl_interp.specs.Envs.{EnvsBelow}
use Rattle.gl_interp.specs.Environments.{objects_of}
use Rattle.gl_interp.specs.Walking.{Before, wrap, Makes, reached}
use Rattle.gl_interp.specs.Running.{at, Ready, Turn}
use Rattle.sym_prims.proofs.Leaving.{leaves_then}
use Rattle.gl_interp.proofs.Walking.{unreached, either, test_done}
use Rattle.gl_interp.proofs.Turns.{pairs_below_more, env_same, makes_kept, ready_kept}
use Rattle.gl_interp.proofs.VisitTurns.{envs_same}

and_assoc : (a b c : Bool) → ((a && b) && c) ≡ (a && (b && c))
and_assoc true b c = refl
and_assoc false b c = refl

pub never_both : (p c : Bool) → (p && c) ≡ false → p ≡ true → c ≡ false
never_both true c h e = h
never_both false c h e = absurd cc

pub not_false : (c : Bool) → not c ≡ false → c ≡ true
not_false true h = refl
not_false false h = absurd cc

-- a path with a test
path_and : (s r c p e : Bool) → p ≡ (s && r) → e ≡ (p && c) → e ≡ (s && (r && c))
path_and s r c p e h k = k ∙ (ap (λ b. b && c) h ∙ and_assoc s r c)

picks : (b c : Bool) (x y : Option Walk) (P : Option Walk → Type 0) → b ≡ c → P (cond b x y) → P (cond c x y)
picks b c x y P e p = subst (λ d. P (cond d x y)) e p

one_of : {X Y : Type 0} (flag : Bool) (f : X → Y) (a b t : X) → t ≡ cond flag a b → cond flag (f a) (f b) ≡ f t
one_of true f a b t e = ap f (sym e)
one_of false f a b t e = ap f (sym e)

module _ {B : Type 0} (g : Ghosts B) (ds : List Definition) (start : Edge) (path : Path) (old new : SobsSeen B) (es : List (List (ℕ × Sob))) (kept : Leaves g old new) (fs : List Frame) where
  wider : EnvsBelow (length old.nodes) es → EnvsBelow (length new.nodes) es
  wider l i = pairs_below_more _ _ kept.grows.no_fewer (get_or es i []) (l i)

  turn_into : (a b : Bor Term) (env : EnvId) (n : ℕ) (x : Sob) (c : Edge) (onward rest : Path) → Ready g old es start path (frame.Test a b env n ∷ fs) (focus.Give x)
      → g.live new.store c → ((z : ℕ → Bool) → g.truth_of new.store c z ≡ not (is_nil (stands_for g old x z)))
      → IsPartOf g new new path.edge (g.truth_of new.store c) onward → IsPartOf g new new path.edge (λ z. not (g.truth_of new.store c z)) rest
      → Turn g ds start old es (frame.Test a b env n ∷ fs) (focus.Give x) new es onward (frame.Other c b env n path.edge rest ∷ fs) (focus.Visit a env n)
  turn_into a b env n x c onward rest d lc says first second =
      let inner : Ready g old es start path fs (focus.Visit a env n) = record { whole = d.whole; envs = d.envs; some_env = d.some_env; start_live = d.start_live; path_live = d.path_live; frames = d.frames.1; focus = d.frames.0; is_path = d.is_path; witnessed = d.witnessed; paths = d.paths } in
      let m : Ready g new es start path fs (focus.Visit a env n) = ready_kept g start old new es es kept (envs_same es) (wider d.envs) path fs (focus.Visit a env n) (focus.Visit a env n) inner d.frames.0 in
      record {
        envs_kept = envs_same es;
        ready = record {
          whole = m.whole;
          envs = m.envs;
          some_env = m.some_env;
          start_live = m.start_live;
          path_live = first.live;
          frames = ((lc, d.frames.0, m.path_live, second.live), m.frames);
          focus = d.frames.0;
          is_path = record { says = λ z. path_and _ _ _ _ _ (m.is_path.says z) (first.says z) };
          witnessed = first.is_witnessed;
          paths = (m.is_path, record { says = λ z. path_and _ _ _ _ _ (m.is_path.says z) (second.says z) }, second.is_witnessed, m.paths);
        };
        makes = λ k z whole s p.
            let r = p.0 in
            let ws = p.1.1.0 in
            let u : List (ℕ × Object) = objects_of (λ y. stands_for g old y z) (get_or es env.number []) in
            let t = g.truth_of new.store c z in
            let wz : List Before = (r.seen, r.made) ∷ ws in
            let is : t ≡ not (is_nil r.value) = says z ∙ ap (λ y. not (is_nil y)) (sym p.1.0) in
            let done = test_done (at g ds k old es z) fs whole r t (term_of a.now) (term_of b.now) u (n + k) ws is p.1.1.1 in
            let moved = makes_kept g start old new es es kept (envs_same es) (wider d.envs) ds k z fs whole _ d.envs d.frames.1 done in (
              wz,
              (
                wz,
                subst (λ e. Makes (at g ds k new es z) fs whole (cond t (wrap wz (walk ds (n + k) e (term_of a.now))) (wrap wz (walk ds (n + k) e (term_of b.now)))))
                    (sym (env_same g start old new es es kept (envs_same es) (wider d.envs) z d.envs env.number d.frames.0)) moved,
              ),
            );
      }

  -- both branches are reached
  pub turn_both : (hs : List Frame) (a b : Bor Term) (env : EnvId) (n : ℕ) (x : Sob) (c : Edge) (onward rest : Path) → hs ≡ frame.Other c b env n path.edge rest ∷ fs → Ready g old es start path (frame.Test a b env n ∷ fs) (focus.Give x)
      → g.live new.store c → ((z : ℕ → Bool) → g.truth_of new.store c z ≡ not (is_nil (stands_for g old x z)))
      → IsPartOf g new new path.edge (g.truth_of new.store c) onward → IsPartOf g new new path.edge (λ z. not (g.truth_of new.store c z)) rest
      → Turn g ds start old es (frame.Test a b env n ∷ fs) (focus.Give x) new es onward hs (focus.Visit a env n)
  turn_both hs a b env n x c onward rest e d lc says first second =
      subst (λ ks. Turn g ds start old es (frame.Test a b env n ∷ fs) (focus.Give x) new es onward ks (focus.Visit a env n)) (sym e) (turn_into a b env n x c onward rest d lc says first second)

  -- one branch alone is reached
  pub turn_one : (a b t : Bor Term) (env : EnvId) (n : ℕ) (x : Sob) (flag : Bool) → Ready g old es start path (frame.Test a b env n ∷ fs) (focus.Give x)
      → term_of t.now ≡ cond flag (term_of a.now) (term_of b.now)
      → ((z : ℕ → Bool) → g.truth_of old.store path.edge z ≡ true → not (is_nil (stands_for g old x z)) ≡ flag)
      → Turn g ds start old es (frame.Test a b env n ∷ fs) (focus.Give x) new es path fs (focus.Visit t env n)
  turn_one a b t env n x flag d is says =
      let inner : Ready g old es start path fs (focus.Visit a env n) = record { whole = d.whole; envs = d.envs; some_env = d.some_env; start_live = d.start_live; path_live = d.path_live; frames = d.frames.1; focus = d.frames.0; is_path = d.is_path; witnessed = d.witnessed; paths = d.paths } in
      record {
        envs_kept = envs_same es;
        ready = ready_kept g start old new es es kept (envs_same es) (wider d.envs) path fs (focus.Visit a env n) (focus.Visit t env n) inner d.frames.0;
        makes = λ k z whole s p.
            let r = p.0 in
            let ws = p.1.1.0 in
            let v = at g ds k old es z in
            let u : List (ℕ × Object) = objects_of (λ y. stands_for g old y z) (get_or es env.number []) in
            let wz : List Before = (r.seen, r.made) ∷ ws in
            let f = wrap wz (walk ds (n + k) u (term_of a.now)) in
            let h = wrap wz (walk ds (n + k) u (term_of b.now)) in
            let done = test_done v fs whole r (not (is_nil r.value)) (term_of a.now) (term_of b.now) u (n + k) ws refl p.1.1.1 in
            let here : g.truth_of old.store path.edge z ≡ reached v.truth fs = d.is_path.says z ∙ ap (λ y. y && reached v.truth fs) s in
            let chosen : Makes v fs whole (cond flag f h) =
            either (reached v.truth fs)
            (λ e. picks (not (is_nil r.value)) flag f h (λ o. Makes v fs whole o) (ap (λ y. not (is_nil y)) p.1.0 ∙ says z (here ∙ e)) done)
            (λ e. unreached v fs whole _ (cond flag f h) e done) in
            let walked : cond flag f h ≡ wrap wz (walk ds (n + k) u (term_of t.now)) = one_of flag (λ y. wrap wz (walk ds (n + k) u y)) (term_of a.now) (term_of b.now) (term_of t.now) is in
            let moved = makes_kept g start old new es es kept (envs_same es) (wider d.envs) ds k z fs whole _ d.envs d.frames.1 (subst (λ o. Makes v fs whole o) walked chosen) in (
              wz,
              subst (λ e. Makes (at g ds k new es z) fs whole (wrap wz (walk ds (n + k) e (term_of t.now))))
                  (sym (env_same g start old new es es kept (envs_same es) (wider d.envs) z d.envs env.number d.frames.0)) moved,
            );
      }

-- ---- by the split of a test
module _ {B : Type 0} (g : Ghosts B) (ds : List Definition) (start : Edge) (path : Path) (old one new : SobsSeen B) (es : List (List (ℕ × Sob))) (fs : List Frame) (a b : Bor Term) (env : EnvId) (n : ℕ) (x : Sob) (test : Edge) (first : Leaves g old one) (second : Leaves g one new) (ready : Ready g old es start path (frame.Test a b env n ∷ fs) (focus.Give x)) (live : g.live one.store test) (says : (z : ℕ → Bool) → g.truth_of one.store test z ≡ not (is_nil (stands_for g old x z))) where
  both_kept : Leaves g old new
  both_kept = leaves_then g old one new first second

  path_live : g.live one.store path.edge
  path_live = first.grows.store.stays path.edge ready.path_live

  path_one : (z : ℕ → Bool) → g.truth_of one.store path.edge z ≡ g.truth_of old.store path.edge z
  path_one z = first.grows.store.same path.edge z ready.path_live

  pub turn_first : (r : Branches) → r ≡ branches.First → IsSplit g one new path.edge test r → Turn g ds start old es (frame.Test a b env n ∷ fs) (focus.Give x) new es path fs (focus.Visit a env n)
  turn_first r e s =
      let h : IsSplit g one new path.edge test branches.First = subst (λ q. IsSplit g one new path.edge test q) e s in
      turn_one g ds start path old new es both_kept fs a b a env n x true ready refl (λ z p. sym (says z) ∙ h z (path_one z ∙ p))

  pub turn_second : (r : Branches) → r ≡ branches.Second → IsSplit g one new path.edge test r → Turn g ds start old es (frame.Test a b env n ∷ fs) (focus.Give x) new es path fs (focus.Visit b env n)
  turn_second r e s =
      let h : IsSplit g one new path.edge test branches.Second = subst (λ q. IsSplit g one new path.edge test q) e s in
      turn_one g ds start path old new es both_kept fs a b b env n x false ready refl (λ z p. sym (says z) ∙ h z (path_one z ∙ p))

  part_moved : (side later : (ℕ → Bool) → Bool) (onward : Path) → ((z : ℕ → Bool) → later z ≡ side z) → IsPartOf g one new path.edge side onward → IsPartOf g new new path.edge later onward
  part_moved side later onward e p = record { live = p.live; says = λ z. p.says z ∙ (λ i. sym (second.grows.store.same path.edge z path_live) i && sym (e z) i); is_witnessed = p.is_witnessed }

  pub turn_parts : (hs : List Frame) (r : Branches) (onward rest : Path) → r ≡ branches.Both onward rest → hs ≡ frame.Other test b env n path.edge rest ∷ fs → IsSplit g one new path.edge test r
      → Turn g ds start old es (frame.Test a b env n ∷ fs) (focus.Give x) new es onward hs (focus.Visit a env n)
  turn_parts hs r onward rest e pushed s =
      let h : IsSplit g one new path.edge test (branches.Both onward rest) = subst (λ q. IsSplit g one new path.edge test q) e s in
      let same : (z : ℕ → Bool) → g.truth_of new.store test z ≡ g.truth_of one.store test z = λ z. second.grows.store.same test z live in
      turn_both g ds start path old new es both_kept fs hs a b env n x test onward rest pushed ready (second.grows.store.stays test live) (λ z. same z ∙ says z)
      (part_moved (g.truth_of one.store test) (g.truth_of new.store test) onward same h.0)
      (part_moved (λ z. not (g.truth_of one.store test z)) (λ z. not (g.truth_of new.store test z)) rest (λ z. ap not (same z)) h.1)
