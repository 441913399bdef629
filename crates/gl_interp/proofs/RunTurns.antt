-- The turns that do a work.
use Rattle.std.proofs.Common.{◌≡◌, ℕ, zero, suc, ◌+◌, ◌<◌, Bool, true, false, ◌&&◌, List, [], ◌∷◌, ◌++◌, length, get_or, map, refl, ap, sym, ◌∙◌, arith, subst, Option, Some, None, Bor, Vec, Global, ◌⊎◌, inl, inr}
use Rattle.std.specs.Prelude.{slice_get}
use Rattle.bfr_store.specs.declared.edge.Edge.{Edge}
use Rattle.bfr_store.specs.declared.meaning.Meaning.{Ghosts}
use Rattle.gl_logic.specs.Object.{Object}
use Rattle.gl_logic.specs.PrimValue.{prim_value}
use Rattle.gl_logic.specs.Environment.{extended}
use Rattle.gl_logic.specs.Definition.{Definition}
use Rattle.gl_logic.specs.TermOf.{term_of}
use Rattle.gl_logic.specs.ConstantCall.{constant_call}
use Rattle.gl_logic.specs.Evaluate.{HasValue, evaluate}
use Rattle.gl_logic.specs.Walk.{Walk, Walks, body_walk, then, ended, opened, walk}
use Rattle.gl_logic.proofs.Optional.{none_some, some_same, then_inverted}
use Rattle.gl_logic.proofs.Walks.{value_unique}
use Rattle.gl_logic.specs.declared.ids.FnId.{FnId}
use Rattle.gl_logic.specs.declared.prim.Primitive.{Primitive}
use Rattle.gl_logic.specs.declared.term.Term.{Term}
use Rattle.sym_objects.specs.declared.sob.Sob.{Sob}
use Rattle.sym_objects.specs.Seen.{SobsSeen, IsLive, stands_for}
use Rattle.sym_prims.specs.Applying.{Leaves}
use Rattle.gl_interp.specs.declared.envs.EnvId.{EnvId}
use Rattle.gl_interp.specs.declared.frame.Work.{Work}
use Rattle.gl_interp.specs.declared.frame.Work.TheVariants as work
use Rattle.gl_interp.specs.declared.frame.Frame.{Frame}
use Rattle.gl_interp.specs.declared.frame.Focus.TheVariants as focus
use Rattle.gl_interp.specs.declared.frame.Path.{Path}
use Rattle.gl_interp.specs.Envs.{AllBelow, EnvsBelow, EnvsKept, sobs_bound}
use Rattle.gl_interp.specs.Environments.{objects_of}
use Rattle.gl_interp.specs.Walking.{Before, wrap, worked, Makes, FocusMakes, reached}
use Rattle.gl_interp.specs.Running.{at, reach, Ready, Turn, Turns}
use Rattle.gl_interp.proofs.Walking.{wrap_none, wrap_some, give_on_path, opens, objects_extended, map_same, strict, unreached}
use Rattle.gl_interp.proofs.Turns.{pairs_below_more, reach_same, env_same, turn_kept, turns_kept}
use Rattle.gl_interp.proofs.ConstantWalks.{constants_walk}
use Rattle.gl_interp.specs.Calls.{values_under}
use Rattle.gl_interp.proofs.VisitTurns.{envs_same}

module _ {B : Type 0} (g : Ghosts B) (ds : List Definition) (start : Edge) (path : Path) (old new : SobsSeen B) (es : List (List (ℕ × Sob))) (kept : Leaves g old new) (fs : List Frame) where
  -- a primitive's value is there
  pub turn_prim : (p : Primitive) (w : Work) (args : Vec Sob Global) (env : EnvId) (n : ℕ) (r : Sob) → w ≡ work.Prim p → Ready g old es start path fs (focus.Run w args env n) → IsLive new r
      → ((a : ℕ → Bool) → g.truth_of old.store path.edge a ≡ true → stands_for g new r a ≡ prim_value p (map (λ x. stands_for g old x a) args.items))
      → Turn g ds start old es fs (focus.Run w args env n) new es path fs (focus.Give r)
  turn_prim p w args env n r e d l m =
      turn_kept g start old new es es kept (envs_same es) (λ i. pairs_below_more _ _ kept.grows.no_fewer (get_or es i []) (d.envs i)) ds path fs (focus.Run w args env n) (focus.Give r) d l
      (λ k a whole s q.
      let v = at g ds k old es a in
      let u : List (ℕ × Object) = objects_of (λ y. stands_for g old y a) (get_or es env.number []) in
      let rs = q.1.0 in
      let one : Walk = record { value = prim_value p rs.values; seen = rs.seen ++ prim_value p rs.values ∷ []; made = rs.made } in
      let two = wrap_some q.0 one in
      let is : wrap q.0 (worked ds (n + k) u w rs) ≡ Some two.0 = ap (λ z. wrap q.0 (worked ds (n + k) u z rs)) e ∙ two.1.0 in
      let here : reached v.truth fs ≡ g.truth_of old.store path.edge a = sym (d.is_path.says a ∙ ap (λ y. y && reached v.truth fs) s) in
      let right : g.truth_of old.store path.edge a ≡ true → stands_for g new r a ≡ two.0.value = λ z. m a z ∙ (ap (prim_value p) (sym q.1.1.0) ∙ sym two.1.1) in
      let seen : (reach (g.truth_of new.store) fs a) ≡ reached v.truth fs = reach_same (g.truth_of old.store) (g.truth_of new.store) (g.live old.store) (length old.nodes) (length es) kept.grows.store.same fs d.frames a in
      (Some two.0, (subst (λ o. Makes v fs whole o) is q.1.1.1, λ z. give_on_path (at g ds k new es a) fs whole two.0 r z (λ y. right (sym here ∙ (sym seen ∙ y))))))

  -- a body is entered: its environment is there, and the clock stands at m
  pub turn_body : (later : List (List (ℕ × Sob))) (w : Work) (args : Vec Sob Global) (env inner : EnvId) (n m : ℕ) (b : Bor Term) (more : Walks → Before)
      → EnvsKept es later → EnvsBelow (length new.nodes) later → Ready g old es start path fs (focus.Run w args env n) → inner.number < length later
      → ((k : ℕ) (a : ℕ → Bool) (rs : Walks) → rs.values ≡ map (λ x. stands_for g old x a) args.items → worked ds (n + k) (objects_of (λ y. stands_for g old y a) (get_or es env.number [])) w rs
      ≡ then (walk ds (m + k) (objects_of (λ y. stands_for g new y a) (get_or later inner.number [])) (term_of b.now)) (ended (more rs).0 (more rs).1))
      → Turn g ds start old es fs (focus.Run w args env n) new later path fs (focus.Visit b inner m)
  turn_body later w args env inner n m b more kept_envs below d l says =
      turn_kept g start old new es later kept kept_envs below ds path fs (focus.Run w args env n) (focus.Visit b inner m) d l
      (λ k a whole s q.
      let rs = q.1.0 in
      let walked = walk ds (m + k) (objects_of (λ y. stands_for g new y a) (get_or later inner.number [])) (term_of b.now) in
      let ws : List Before = more rs ∷ q.0 in
      (wrap ws walked, (subst (λ o. Makes (at g ds k old es a) fs whole (wrap q.0 o)) (says k a rs q.1.1.0) q.1.1.1, λ z. (ws, z))))

  -- the environment of a body: the names with what the arguments stood for
  pub inner_objects : (later : List (List (ℕ × Sob))) (names : List ℕ) (args : List Sob) (i j : ℕ) (a : ℕ → Bool) → EnvsBelow (length old.nodes) es → AllBelow (length old.nodes) args → i < length es
      → get_or later j [] ≡ sobs_bound names args ++ get_or es i [] → length names ≡ length args
      → objects_of (λ y. stands_for g new y a) (get_or later j []) ≡ extended names (map (λ x. stands_for g old x a) args) (objects_of (λ y. stands_for g old y a) (get_or es i []))
  inner_objects later names args i j a below all less is count =
      ap (objects_of (λ y. stands_for g new y a)) is
      ∙ (objects_extended (λ y. stands_for g new y a) names args (get_or es i []) count
      ∙ (λ t. extended names (sym (map_same (λ x. stands_for g old x a) (λ x. stands_for g new x a) (length old.nodes) (λ x h. kept.grows.same x a h) args all) t) (env_same g start old new es es kept (envs_same es) (λ z. pairs_below_more _ _ kept.grows.no_fewer (get_or es z []) (below z)) a below i less t)))

  pub turn_let : (later : List (List (ℕ × Sob))) (w : Work) (names : Bor (List ℕ)) (args : Vec Sob Global) (env inner : EnvId) (n : ℕ) (b : Bor Term)
      → w ≡ work.Let names b → EnvsKept es later → EnvsBelow (length new.nodes) later → Ready g old es start path fs (focus.Run w args env n) → inner.number < length later
      → get_or later inner.number [] ≡ sobs_bound names.now args.items ++ get_or es env.number [] → length names.now ≡ length args.items
      → Turn g ds start old es fs (focus.Run w args env n) new later path fs (focus.Visit b inner n)
  turn_let later w names args env inner n b e kept_envs below d l is count =
      turn_body later w args env inner n n b (λ rs. (rs.seen, rs.made)) kept_envs below d l
      (λ k a rs q. ap (λ z. worked ds (n + k) (objects_of (λ y. stands_for g old y a) (get_or es env.number [])) z rs) e
      ∙ ap (λ u. then (walk ds (n + k) u (term_of b.now)) (ended rs.seen rs.made))
      (ap (λ xs. extended names.now xs (objects_of (λ y. stands_for g old y a) (get_or es env.number []))) q
      ∙ sym (inner_objects later names.now args.items env.number inner.number a d.envs d.focus.0 d.focus.1 is count)))

  pub turn_call : (later : List (List (ℕ × Sob))) (w : Work) (f : FnId) (c : Definition) (args : Vec Sob Global) (env inner zero_env : EnvId) (n m : ℕ) (b : Bor Term)
      → w ≡ work.Call f → n ≡ suc m → slice_get ds f.number ≡ Some c → term_of b.now ≡ c.body → EnvsKept es later → EnvsBelow (length new.nodes) later → Ready g old es start path fs (focus.Run w args env n) → inner.number < length later
      → zero_env.number < length es → get_or es zero_env.number [] ≡ []
      → get_or later inner.number [] ≡ sobs_bound c.formals args.items ++ get_or es zero_env.number [] → length c.formals ≡ length args.items
      → Turn g ds start old es fs (focus.Run w args env n) new later path fs (focus.Visit b inner m)
  turn_call later w f c args env inner zero_env n m b e clock there body kept_envs below d l z empty is count =
      turn_body later w args env inner n m b (λ rs. (rs.seen, rs.made ++ (f.number, rs.values) ∷ [])) kept_envs below d l
      (λ k a rs q.
      let high : n + k ≡ suc (m + k) = omega (arith, clock) in
      let u : List (ℕ × Object) = objects_of (λ y. stands_for g old y a) (get_or es env.number []) in
      let bound_is : extended c.formals rs.values [] ≡ objects_of (λ y. stands_for g new y a) (get_or later inner.number []) =
      ap (λ xs. extended c.formals xs []) q
      ∙ (ap (λ ps. extended c.formals (map (λ x. stands_for g old x a) args.items) (objects_of (λ y. stands_for g old y a) ps)) (sym empty)
      ∙ sym (inner_objects later c.formals args.items zero_env.number inner.number a d.envs d.focus.0 z is count)) in
      (λ i. worked ds (high i) u (e i) rs)
      ∙ (opens ds f.number (m + k) c rs there
      ∙ (λ i. then (walk ds (m + k) (bound_is i) (sym body i)) (ended rs.seen (rs.made ++ (f.number, rs.values) ∷ [])))))

-- ---- a call that the machine evaluated
value_of_opened : (ds : List Definition) (m f : ℕ) (rs : Walks) (r : Walk) → opened ds m f rs ≡ Some r → evaluate ds m [] (constant_call f rs.values) ≡ Some r.value
value_of_opened ds zero f rs r e = none_some r e
value_of_opened ds (suc m) f rs r e =
    let q = then_inverted (body_walk ds m f rs.values) (ended rs.seen (rs.made ++ (f, rs.values) ∷ [])) r e in
    let same : q.0.value ≡ r.value = ap (λ (w : Walk). w.value) (some_same _ r q.1.1) in
    ap (λ o. then (then o (opened ds (suc m) f)) (λ w. Some w.value)) (constants_walk (opened ds (suc m)) rs.values [])
    ∙ (ap (λ o. then (then o (ended rs.values ([] ++ (f, rs.values) ∷ []))) (λ w. Some w.value)) q.1.0 ∙ ap Some same)

module _ {B : Type 0} (g : Ghosts B) (ds : List Definition) (start : Edge) (path : Path) (old new : SobsSeen B) (es : List (List (ℕ × Sob))) (kept : Leaves g old new) (fs : List Frame) where
  abbrev Answered : ℕ → (ℕ → Bool) → Option Walk → Sob → Type 0
  Answered k a whole r = ((o : Option Walk) × (Makes (at g ds k old es a) fs whole o × (Makes (at g ds k new es a) fs whole o → FocusMakes (at g ds k new es a) fs whole (focus.Give r)))) ⊎ (whole ≡ None)

  evaluated_at : (k : ℕ) (a : ℕ → Bool) (whole : Option Walk) (r : Sob) (m f : ℕ) (ws : List Before) (rs : Walks) (o : Option Walk) (b : Bool) → opened ds m f rs ≡ o → reached (λ e. g.truth_of old.store e a) fs ≡ b
      → HasValue ds [] (constant_call f rs.values) (stands_for g new r a) → Makes (at g ds k old es a) fs whole (wrap ws o) → Answered k a whole r
  evaluated_at k a whole r m f ws rs None true e h value p = inr (strict (at g ds k old es a) fs whole h (subst (λ z. Makes (at g ds k old es a) fs whole z) (wrap_none ws) p))
  evaluated_at k a whole r m f ws rs None false e h value p =
      let z : Walk = record { value = stands_for g new r a; seen = []; made = [] } in
      inl (Some z, (unreached (at g ds k old es a) fs whole (wrap ws None) (Some z) h p, λ q. (z, (refl, q))))
  evaluated_at k a whole r m f ws rs (Some z) b e h value p =
      let two = wrap_some ws z in
      let same : z.value ≡ stands_for g new r a = value_unique ds [] (constant_call f rs.values) z.value (stands_for g new r a) (m, value_of_opened ds m f rs z e) value in
      inl (Some two.0, (subst (λ y. Makes (at g ds k old es a) fs whole y) two.1.0 p, λ q. (two.0, (two.1.1 ∙ same, q))))

  pub turn_evaluated : (f : FnId) (w : Work) (args : Vec Sob Global) (env : EnvId) (n : ℕ) (r : Sob) → w ≡ work.Call f → Ready g old es start path fs (focus.Run w args env n) → IsLive new r
      → ((a : ℕ → Bool) → HasValue ds [] (constant_call f.number (values_under g old args.items a)) (stands_for g new r a))
      → Turns g ds start old es fs (focus.Run w args env n) new es path fs (focus.Give r)
  turn_evaluated f w args env n r e d l value =
      turns_kept g start old new es es kept (envs_same es) (λ i. pairs_below_more _ _ kept.grows.no_fewer (get_or es i []) (d.envs i)) ds path fs (focus.Run w args env n) (focus.Give r) d l
      (λ k a whole s q.
      let u : List (ℕ × Object) = objects_of (λ y. stands_for g old y a) (get_or es env.number []) in
      let rs = q.1.0 in
      evaluated_at k a whole r (n + k) f.number q.0 rs (opened ds (n + k) f.number rs) (reached (λ c. g.truth_of old.store c a) fs) refl refl
      (subst (λ xs. HasValue ds [] (constant_call f.number xs) (stands_for g new r a)) (sym q.1.1.0) (value a))
      (subst (λ z. Makes (at g ds k old es a) fs whole (wrap q.0 (worked ds (n + k) u z rs))) e q.1.1.1))
