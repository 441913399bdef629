-- The turns that go into a term.
use Rattle.std.proofs.Common.{◌≡◌, ℕ, ◌+◌, ◌<◌, Bool, List, [], ◌∷◌, length, get_or, map, refl, ap, sym, ◌∙◌, arith, subst, Some, None, Bor, Vec, Global}
use Rattle.bfr_store.specs.declared.edge.Edge.{Edge}
use Rattle.bfr_store.specs.declared.meaning.Meaning.{Ghosts}
use Rattle.gl_logic.specs.Object.{Object, nil}
use Rattle.gl_logic.specs.Environment.{look}
use Rattle.gl_logic.specs.Definition.{Definition}
use Rattle.gl_logic.specs.Exp.{Exp, Exps}
use Rattle.gl_logic.specs.Exp as exp
use Rattle.gl_logic.specs.TermOf.{term_of, terms_of}
use Rattle.gl_logic.specs.Walk.{Walk, then, visited, walk}
use Rattle.gl_logic.specs.declared.term.Term.{Term}
use Rattle.sym_objects.specs.declared.sob.Sob.{Sob}
use Rattle.sym_objects.specs.Seen.{SobsSeen, IsLive, stands_for}
use Rattle.sym_prims.specs.Applying.{Leaves}
use Rattle.gl_interp.specs.declared.envs.EnvId.{EnvId}
use Rattle.gl_interp.specs.declared.frame.Work.{Work}
use Rattle.gl_interp.specs.declared.frame.Frame.{Frame}
use Rattle.gl_interp.specs.declared.frame.Frame.TheVariants as frame
use Rattle.gl_interp.specs.declared.frame.Focus.TheVariants as focus
use Rattle.gl_interp.specs.declared.frame.Path.{Path}
use Rattle.gl_interp.specs.Envs.{AllBelow, PairsBelow, EnvsKept, sob_in}
use Rattle.gl_interp.specs.Environments.{objects_of}
use Rattle.gl_interp.specs.Walking.{wrap, worked, walks, from, Makes}
use Rattle.gl_interp.specs.Running.{at, Ready, Turn}
use Rattle.gl_interp.proofs.Walking.{wrap_some}
use Rattle.gl_interp.proofs.Turns.{pairs_below_more, turn_kept}

-- ---- look-ups
pub look_some : (of : Sob → Object) (ps : List (ℕ × Sob)) (v : ℕ) (x : Sob) → sob_in ps v ≡ Some x → look (objects_of of ps) v ≡ of x
look_some of [] v x e = absurd cc
look_some of (p ∷ ps) v x e = grind (arith, look_some of ps v x)

pub look_none : (of : Sob → Object) (ps : List (ℕ × Sob)) (v : ℕ) → sob_in ps v ≡ None → look (objects_of of ps) v ≡ nil
look_none of [] v e = refl
look_none of (p ∷ ps) v e = grind (arith, look_none of ps v)

pub look_below : (n : ℕ) (ps : List (ℕ × Sob)) (v : ℕ) (x : Sob) → PairsBelow n ps → sob_in ps v ≡ Some x → x.number < n
look_below n [] v x l e = absurd cc
look_below n (p ∷ ps) v x l e = grind (arith, l.0, look_below n ps v x l.1)

pub envs_same : (es : List (List (ℕ × Sob))) → EnvsKept es es
envs_same es = record { no_fewer = omega arith; same = λ i h. refl }

module _ {B : Type 0} (g : Ghosts B) (ds : List Definition) (start : Edge) (path : Path) (old : SobsSeen B) (es : List (List (ℕ × Sob))) (fs : List Frame) where
  -- the term is done at once
  pub turn_visited : (new : SobsSeen B) (t : Bor Term) (env : EnvId) (n : ℕ) (e : Exp) (x : Sob) (y : (ℕ → Bool) → Object) → Ready g old es start path fs (focus.Visit t env n) → Leaves g old new → IsLive new x → term_of t.now ≡ e
      → ((k : ℕ) (a : ℕ → Bool) → walk ds (n + k) (objects_of (λ z. stands_for g old z a) (get_or es env.number [])) e ≡ visited (y a)) → ((a : ℕ → Bool) → stands_for g new x a ≡ y a)
      → Turn g ds start old es fs (focus.Visit t env n) new es path fs (focus.Give x)
  turn_visited new t env n e x y r kept l is w m =
      turn_kept g start old new es es kept (envs_same es) (λ i. pairs_below_more _ _ kept.grows.no_fewer (get_or es i []) (r.envs i)) ds path fs (focus.Visit t env n) (focus.Give x) r l
      (λ k a whole s p.
      let v : Walk = record { value = y a; seen = y a ∷ []; made = [] } in
      let q = wrap_some p.0 v in
      let moved : wrap p.0 (walk ds (n + k) (objects_of (λ z. stands_for g old z a) (get_or es env.number [])) (term_of t.now)) ≡ Some q.0 =
      ap (λ u. wrap p.0 (walk ds (n + k) (objects_of (λ z. stands_for g old z a) (get_or es env.number [])) u)) is ∙ (ap (wrap p.0) (w k a) ∙ q.1.0) in
      (Some q.0, (subst (λ o. Makes (at g ds k old es a) fs whole o) moved p.1, λ z. (q.0, (q.1.1 ∙ sym (m a), z)))))

  -- the test of an `if` goes first
  pub turn_if : (t u a b : Bor Term) (env : EnvId) (n : ℕ) → Ready g old es start path fs (focus.Visit t env n) → term_of t.now ≡ exp.If (term_of u.now) (term_of a.now) (term_of b.now)
      → Turn g ds start old es fs (focus.Visit t env n) old es path (frame.Test a b env n ∷ fs) (focus.Visit u env n)
  turn_if t u a b env n r is = record {
    envs_kept = envs_same es;
    ready = record { whole = r.whole; envs = r.envs; some_env = r.some_env; start_live = r.start_live; path_live = r.path_live; frames = (r.focus, r.frames); focus = r.focus; is_path = r.is_path; witnessed = r.witnessed; paths = r.paths };
    makes = λ k z whole s p. ([], (p.0, subst (λ e. Makes (at g ds k old es z) fs whole (wrap p.0 (walk ds (n + k) (objects_of (λ y. stands_for g old y z) (get_or es env.number [])) e))) is p.1));
  }

  -- the arguments go first
  pub turn_next : (t : Bor Term) (w : Work) (done : Vec Sob Global) (ts : Bor (List Term)) (items : List Term) (env : EnvId) (n : ℕ) (e : Exp) → Ready g old es start path fs (focus.Visit t env n) → term_of t.now ≡ e → done.items ≡ [] → ts.now ≡ items
      → ((m : ℕ) (v : List (ℕ × Object)) → walk ds m v e ≡ then (walks ds m v (terms_of items)) (worked ds m v w))
      → Turn g ds start old es fs (focus.Visit t env n) old es path fs (focus.Next w done ts env n)
  turn_next t w done ts items env n e r is none all same =
      let below : AllBelow (length old.nodes) done.items = subst (λ xs. AllBelow (length old.nodes) xs) (sym none) tt in
      record {
        envs_kept = envs_same es;
        ready = record { whole = r.whole; envs = r.envs; some_env = r.some_env; start_live = r.start_live; path_live = r.path_live; frames = r.frames; focus = (below, r.focus, omega (arith, ap length none)); is_path = r.is_path; witnessed = r.witnessed; paths = r.paths };
        makes = λ k z whole s p.
            let v : List (ℕ × Object) = objects_of (λ y. stands_for g old y z) (get_or es env.number []) in (
              p.0,
              (
                [],
                (
                  ap (map (λ y. stands_for g old y z)) (sym none),
                  subst (λ o. Makes (at g ds k old es z) fs whole (wrap p.0 o))
                      (ap (walk ds (n + k) v) is ∙ (same (n + k) v ∙ (λ i. then (walks ds (n + k) v (from (length (sym none i)) (sym all i))) (worked ds (n + k) v w)))) p.1,
                ),
              ),
            );
      }
