-- The turns that hand an object on.
use Rattle.std.proofs.Common.{◌≡◌, ℕ, suc, ◌+◌, ◌<◌, ◌≤◌, Bool, true, false, not, ◌&&◌, cond, List, [], ◌∷◌, ◌++◌, length, get_or, map, refl, ap, sym, ◌∙◌, arith, subst, Option, Some, IfSome, ◌⊎◌, inl, inr, Bor, Vec, Global}
use Rattle.std.proofs.lemmas.List.{length_push}
use Rattle.bfr_store.specs.declared.edge.Edge.{Edge}
use Rattle.bfr_store.specs.declared.meaning.Meaning.{Ghosts}
use Rattle.gl_logic.specs.Object.{Object}
use Rattle.gl_logic.specs.Definition.{Definition}
use Rattle.gl_logic.specs.Walk.{Walk, then}
use Rattle.gl_logic.specs.declared.term.Term.{Term}
use Rattle.sym_objects.specs.declared.sob.Sob.{Sob}
use Rattle.sym_objects.specs.Seen.{SobsSeen, IsLive, stands_for}
use Rattle.sym_prims.specs.Applying.{Leaves}
use Rattle.gl_interp.specs.declared.envs.EnvId.{EnvId}
use Rattle.gl_interp.specs.declared.frame.Work.{Work}
use Rattle.gl_interp.specs.declared.frame.Frame.{Frame}
use Rattle.gl_interp.specs.declared.frame.Frame.TheVariants as frame
use Rattle.gl_interp.specs.declared.frame.Focus.TheVariants as focus
use Rattle.gl_interp.specs.declared.frame.Path.{Path}
use Rattle.gl_interp.specs.Envs.{AllBelow, EnvsBelow}
use Rattle.gl_interp.specs.Environments.{objects_of}
use Rattle.gl_interp.specs.Walking.{wrap, chained, values_of, worked, walks, from, Makes}
use Rattle.gl_interp.specs.Running.{at, reach, IsPath, IsWitness, IsWitnessed, Ready, Turn}
use Rattle.gl_interp.proofs.Walking.{chained_push, chained_done, from_more, from_none, join_done, join_value}
use Rattle.gl_interp.proofs.Turns.{found_moves, pairs_below_more, makes_kept, ready_kept}
use Rattle.gl_interp.proofs.VisitTurns.{envs_same}

pub all_below_push : (n : ℕ) (xs : List Sob) (x : Sob) → AllBelow n xs → x.number < n → AllBelow n (xs ++ x ∷ [])
all_below_push n [] x l h = (h, tt)
all_below_push n (y ∷ ys) x l h = (l.0, all_below_push n ys x l.1 h)

values_push : (rs : List Walk) (r : Walk) → values_of (rs ++ r ∷ []) ≡ values_of rs ++ r.value ∷ []
values_push [] r = refl
values_push (q ∷ rs) r = ap (λ xs. q.value ∷ xs) (values_push rs r)

map_push : (f : Sob → Object) (xs : List Sob) (x : Sob) → map f (xs ++ x ∷ []) ≡ map f xs ++ f x ∷ []
map_push f [] x = refl
map_push f (y ∷ ys) x = ap (λ zs. f y ∷ zs) (map_push f ys x)

both_of_three : (s r c : Bool) → (s && (r && c)) ≡ true → (s && r) ≡ true
both_of_three true true c h = refl
both_of_three true false c h = h
both_of_three false r c h = h

-- an assignment of a path's part is one of the path
found_above : (truth : Edge → (ℕ → Bool) → Bool) (width : ℕ) (start : Edge) (here side : (ℕ → Bool) → Bool) (part whole : Edge) → IsPath truth start (λ a. here a && side a) part → IsPath truth start here whole → (o : Option (List Bool)) → IfSome o (λ w. IsWitness truth width part w) → IfSome o (λ w. IsWitness truth width whole w)
found_above truth width start here side part whole p q o h =
    found_moves truth truth width width part whole refl (λ a e. q.says a ∙ both_of_three (truth start a) (here a) (side a) (sym (p.says a) ∙ e)) o h

-- ---- where the machine's objects stay
module _ {B : Type 0} (g : Ghosts B) (ds : List Definition) (start : Edge) (path : Path) (old : SobsSeen B) (es : List (List (ℕ × Sob))) (fs : List Frame) where
  -- the next argument
  pub turn_argument : (w : Work) (done : Vec Sob Global) (ts : Bor (List Term)) (t : Bor Term) (env : EnvId) (n : ℕ) → Ready g old es start path fs (focus.Next w done ts env n) → length done.items < length ts.now → get_or ts.now (length done.items) t.now ≡ t.now
      → Turn g ds start old es fs (focus.Next w done ts env n) old es path (frame.Arguments w done ts env n ∷ fs) (focus.Visit t env n)
  turn_argument w done ts t env n r less is = record {
    envs_kept = envs_same es;
    ready = record { whole = r.whole; envs = r.envs; some_env = r.some_env; start_live = r.start_live; path_live = r.path_live; frames = ((r.focus.0, r.focus.1, less), r.frames); focus = r.focus.1; is_path = r.is_path; witnessed = r.witnessed; paths = r.paths };
    makes = λ k z whole s p.
        let v : List (ℕ × Object) = objects_of (λ y. stands_for g old y z) (get_or es env.number []) in
        ([], (p.0, (p.1.0, (p.1.1.0, subst (λ ts. Makes (at g ds k old es z) fs whole (wrap p.0 (then (chained p.1.0 (walks ds (n + k) v ts)) (worked ds (n + k) v w)))) (from_more (length done.items) ts.now t.now less is) p.1.1.1))));
  }

  pub turn_argument_at : (hs : List Frame) (w : Work) (done : Vec Sob Global) (ts : Bor (List Term)) (t : Bor Term) (u : Term) (env : EnvId) (n : ℕ) → hs ≡ frame.Arguments w done ts env n ∷ fs → Ready g old es start path fs (focus.Next w done ts env n) → length done.items < length ts.now → t.now ≡ u → get_or ts.now (length done.items) u ≡ u
      → Turn g ds start old es fs (focus.Next w done ts env n) old es path hs (focus.Visit t env n)
  turn_argument_at hs w done ts t u env n e r less same is =
      subst (λ hs. Turn g ds start old es fs (focus.Next w done ts env n) old es path hs (focus.Visit t env n)) (sym e)
      (turn_argument w done ts t env n r less (subst (λ y. get_or ts.now (length done.items) y ≡ y) (sym same) is))

  -- all arguments are there
  pub turn_all : (w : Work) (done : Vec Sob Global) (ts : Bor (List Term)) (env : EnvId) (n : ℕ) → Ready g old es start path fs (focus.Next w done ts env n) → length ts.now ≤ length done.items
      → Turn g ds start old es fs (focus.Next w done ts env n) old es path fs (focus.Run w done env n)
  turn_all w done ts env n r less = record {
    envs_kept = envs_same es;
    ready = record { whole = r.whole; envs = r.envs; some_env = r.some_env; start_live = r.start_live; path_live = r.path_live; frames = r.frames; focus = (r.focus.0, r.focus.1); is_path = r.is_path; witnessed = r.witnessed; paths = r.paths };
    makes = λ k z whole s p.
        let v : List (ℕ × Object) = objects_of (λ y. stands_for g old y z) (get_or es env.number []) in
        let q = chained_done p.1.0 in
        (p.0, (q.0, (q.1.1 ∙ p.1.1.0, subst (λ o. Makes (at g ds k old es z) fs whole (wrap p.0 (then o (worked ds (n + k) v w)))) (ap (λ ts. chained p.1.0 (walks ds (n + k) v ts)) (from_none (length done.items) ts.now less) ∙ q.1.0) p.1.1.1)));
  }

  -- an argument is there
  pub turn_done : (w : Work) (done more : Vec Sob Global) (ts : Bor (List Term)) (env : EnvId) (n : ℕ) (x : Sob) → Ready g old es start path (frame.Arguments w done ts env n ∷ fs) (focus.Give x) → more.items ≡ done.items ++ x ∷ []
      → Turn g ds start old es (frame.Arguments w done ts env n ∷ fs) (focus.Give x) old es path fs (focus.Next w more ts env n)
  turn_done w done more ts env n x r is =
      let count : length more.items ≡ suc (length done.items) = ap length is ∙ (length_push done.items x ∙ omega arith) in
      record {
        envs_kept = envs_same es;
        ready = record {
          whole = r.whole;
          envs = r.envs;
          some_env = r.some_env;
          start_live = r.start_live;
          path_live = r.path_live;
          frames = r.frames.1;
          focus = (subst (λ xs. AllBelow (length old.nodes) xs) (sym is) (all_below_push _ done.items x r.frames.0.0 r.focus), r.frames.0.1, omega (arith, count, r.frames.0.2));
          is_path = r.is_path;
          witnessed = r.witnessed;
          paths = r.paths;
        };
        makes = λ k z whole s p.
            let v : List (ℕ × Object) = objects_of (λ y. stands_for g old y z) (get_or es env.number []) in
            let rs = p.1.1.1.0 in
            let rest = walks ds (n + k) v (from (suc (length done.items)) ts.now) in (
              p.1.1.0,
              (
                rs ++ p.0 ∷ [],
                (
                  values_push rs p.0 ∙ ((λ i. p.1.1.1.1.0 i ++ p.1.0 i ∷ []) ∙ (sym (map_push (λ y. stands_for g old y z) done.items x) ∙ ap (map (λ y. stands_for g old y z)) (sym is))),
                  subst (λ o. Makes (at g ds k old es z) fs whole (wrap p.1.1.0 (then o (worked ds (n + k) v w))))
                      (sym (chained_push rs p.0 rest) ∙ ap (λ m. chained (rs ++ p.0 ∷ []) (walks ds (n + k) v (from m ts.now))) (sym count)) p.1.1.1.1.1,
                ),
              ),
            );
      }

  -- the first branch is done
  pub turn_other : (c saved : Edge) (rest kept : Path) (b : Bor Term) (env : EnvId) (n : ℕ) (x : Sob) → kept.edge ≡ saved → kept.found ≡ path.found → Ready g old es start path (frame.Other c b env n saved rest ∷ fs) (focus.Give x)
      → Turn g ds start old es (frame.Other c b env n saved rest ∷ fs) (focus.Give x) old es rest (frame.Join c x kept ∷ fs) (focus.Visit b env n)
  turn_other c saved rest kept b env n x same found r =
      let t = g.truth_of old.store in
      let width = g.width_of old.store in
      let is_kept : IsPath t start (reach t fs) kept.edge = record { says = λ a. ap (λ e. t e a) same ∙ r.paths.0.says a } in
      let above : IfSome path.found (λ w. IsWitness t width kept.edge w) = found_above t width start (reach t fs) (t c) path.edge kept.edge r.is_path is_kept path.found r.witnessed in
      record {
        envs_kept = envs_same es;
        ready = record {
          whole = r.whole;
          envs = r.envs;
          some_env = r.some_env;
          start_live = r.start_live;
          path_live = r.frames.0.3;
          frames = ((r.frames.0.0, r.focus, subst (λ e. g.live old.store e) (sym same) r.frames.0.2), r.frames.1);
          focus = r.frames.0.1;
          is_path = r.paths.1;
          witnessed = r.paths.2;
          paths = (is_kept, subst (λ o. IfSome o (λ w. IsWitness t width kept.edge w)) (sym found) above, r.paths.3);
        };
        makes = λ k z whole s p. (p.1.1.0, (p.0, (p.1.0, p.1.1.1)));
      }

  pub turn_other_at : (hs : List Frame) (f : Frame) (c saved : Edge) (rest kept : Path) (b : Bor Term) (env : EnvId) (n : ℕ) (x : Sob) → f ≡ frame.Other c b env n saved rest → hs ≡ frame.Join c x kept ∷ fs → kept.edge ≡ saved → kept.found ≡ path.found
      → Ready g old es start path (f ∷ fs) (focus.Give x) → Turn g ds start old es (f ∷ fs) (focus.Give x) old es rest hs (focus.Visit b env n)
  turn_other_at hs f c saved rest kept b env n x e i same found r =
      subst (λ hs. Turn g ds start old es (f ∷ fs) (focus.Give x) old es rest hs (focus.Visit b env n)) (sym i)
      (subst (λ y. Turn g ds start old es (y ∷ fs) (focus.Give x) old es rest (frame.Join c x kept ∷ fs) (focus.Visit b env n)) (sym e)
      (turn_other c saved rest kept b env n x same found (subst (λ y. Ready g old es start path (y ∷ fs) (focus.Give x)) e r)))

  pub turn_done_at : (f : Frame) (w : Work) (done more : Vec Sob Global) (ts : Bor (List Term)) (env : EnvId) (n : ℕ) (x : Sob) → f ≡ frame.Arguments w done ts env n → more.items ≡ done.items ++ x ∷ [] → Ready g old es start path (f ∷ fs) (focus.Give x)
      → Turn g ds start old es (f ∷ fs) (focus.Give x) old es path fs (focus.Next w more ts env n)
  turn_done_at f w done more ts env n x e i r =
      subst (λ y. Turn g ds start old es (y ∷ fs) (focus.Give x) old es path fs (focus.Next w more ts env n)) (sym e)
      (turn_done w done more ts env n x (subst (λ y. Ready g old es start path (y ∷ fs) (focus.Give x)) e r) i)

-- ---- where more nodes are made
module _ {B : Type 0} (g : Ghosts B) (ds : List Definition) (start : Edge) (path : Path) (old new : SobsSeen B) (es : List (List (ℕ × Sob))) (kept : Leaves g old new) (fs : List Frame) where
  lower : EnvsBelow (length old.nodes) es → EnvsBelow (length new.nodes) es
  lower l i = pairs_below_more _ _ kept.grows.no_fewer (get_or es i []) (l i)

  -- both branches are done
  pub turn_join : (c : Edge) (saved back : Path) (x y r : Sob) → back.edge ≡ saved.edge → (back.found ≡ path.found) ⊎ (back.found ≡ saved.found) → Ready g old es start path (frame.Join c x saved ∷ fs) (focus.Give y) → IsLive new r
      → ((a : ℕ → Bool) → stands_for g new r a ≡ cond (g.truth_of old.store c a) (stands_for g old x a) (stands_for g old y a))
      → Turn g ds start old es (frame.Join c x saved ∷ fs) (focus.Give y) new es back fs (focus.Give r)
  turn_join c saved back x y r same found d l m =
      let t = g.truth_of old.store in
      let width = g.width_of old.store in
      let is_back : IsPath t start (reach t fs) back.edge = record { says = λ a. ap (λ e. t e a) same ∙ d.paths.0.says a } in
      let is_witnessed : IsWitnessed t width back = elim found [
        | inl e ↦ subst (λ o. IfSome o (λ w. IsWitness t width back.edge w)) (sym e) (found_above t width start (reach t fs) (λ a. not (t c a)) path.edge back.edge d.is_path is_back path.found d.witnessed)
        | inr e ↦ subst (λ o. IfSome o (λ w. IsWitness t width back.edge w)) (sym e) (subst (λ h. IfSome saved.found (λ w. IsWitness t width h w)) (sym same) d.paths.1)
      ] in
      let middle : Ready g old es start back fs (focus.Give y) = record { witnessed = is_witnessed; whole = d.whole; envs = d.envs; some_env = d.some_env; start_live = d.start_live; path_live = subst (λ e. g.live old.store e) (sym same) d.frames.0.2; frames = d.frames.1; focus = d.focus; is_path = is_back; paths = d.paths.2 } in
      record {
        envs_kept = envs_same es;
        ready = ready_kept g start old new es es kept (envs_same es) (lower d.envs) back fs (focus.Give y) (focus.Give r) middle l;
        makes = λ k a whole s p.
            let v = at g ds k old es a in
            let t = g.truth_of old.store c a in
            let one = p.1.1.0 in
            let joined_walk : Walk = cond t one p.0 in (
              joined_walk,
              (
                join_value v fs whole t one p.0 (stands_for g old x a) (stands_for g old y a) p.1.1.1.0 p.1.0 ∙ sym (m a),
                makes_kept g start old new es es kept (envs_same es) (lower d.envs) ds k a fs whole (Some joined_walk) d.envs d.frames.1 (join_done v fs whole t one p.0 p.1.1.1.1),
              ),
            );
      }

  pub turn_join_at : (f : Frame) (c : Edge) (saved back : Path) (x y r : Sob) → f ≡ frame.Join c x saved → back.edge ≡ saved.edge → (back.found ≡ path.found) ⊎ (back.found ≡ saved.found) → Ready g old es start path (f ∷ fs) (focus.Give y) → IsLive new r
      → ((a : ℕ → Bool) → stands_for g new r a ≡ cond (g.truth_of old.store c a) (stands_for g old x a) (stands_for g old y a))
      → Turn g ds start old es (f ∷ fs) (focus.Give y) new es back fs (focus.Give r)
  turn_join_at f c saved back x y r e same found d l m =
      subst (λ z. Turn g ds start old es (z ∷ fs) (focus.Give y) new es back fs (focus.Give r)) (sym e)
      (turn_join c saved back x y r same found (subst (λ z. Ready g old es start path (z ∷ fs) (focus.Give y)) e d) l m)
