-- The turns of the machine.
use Rattle.std.proofs.Common.{◌≡◌, ℕ, ◌<◌, ◌≤◌, Bool, true, not, ◌&&◌, List, [], ◌∷◌, length, get_or, refl, ap, sym, ◌∙◌, arith, Option, Some, None, IfSome, ◌⊎◌, inl, inr}
use Rattle.bfr_store.specs.declared.edge.Edge.{Edge}
use Rattle.bfr_store.specs.declared.meaning.Meaning.{Ghosts}
use Rattle.gl_logic.specs.Object.{Object}
use Rattle.gl_logic.specs.Definition.{Definition}
use Rattle.gl_logic.specs.Walk.{Walk}
use Rattle.sym_objects.specs.declared.sob.Sob.{Sob}
use Rattle.sym_objects.specs.Seen.{SobsSeen, stands_for}
use Rattle.sym_prims.specs.Applying.{Leaves}
use Rattle.gl_interp.specs.declared.frame.Frame.{Frame}
use Rattle.gl_interp.specs.declared.frame.Frame.TheVariants as frame
use Rattle.gl_interp.specs.declared.frame.Focus.{Focus}
use Rattle.gl_logic.specs.Assignments.{value_at}
use Rattle.gl_interp.specs.declared.frame.Path.{Path}
use Rattle.gl_interp.specs.Envs.{AllBelow, PairsBelow, EnvsBelow, EnvsKept}
use Rattle.gl_interp.specs.Environments.{objects_of}
use Rattle.gl_interp.specs.Walking.{Makes, FocusMakes}
use Rattle.gl_interp.specs.Running.{at, FramesLive, FocusLive, IsPath, IsWitness, IsWitnessed, reach, PathsRight, Ready, Turn, Turns}
use Rattle.gl_interp.proofs.Walking.{makes_same}

-- ---- live things stay live
pub all_below_more : (n m : ℕ) → n ≤ m → (xs : List Sob) → AllBelow n xs → AllBelow m xs
all_below_more n m e [] l = tt
all_below_more n m e (x ∷ xs) l = (omega (arith, e, l.0), all_below_more n m e xs l.1)

pub pairs_below_more : (n m : ℕ) → n ≤ m → (ps : List (ℕ × Sob)) → PairsBelow n ps → PairsBelow m ps
pairs_below_more n m e [] l = tt
pairs_below_more n m e (p ∷ ps) l = (omega (arith, e, l.0), pairs_below_more n m e ps l.1)

pub frames_stay : (live new : Edge → Type 0) (n n' m m' : ℕ) → ((c : Edge) → live c → new c) → n ≤ n' → m ≤ m' → (fs : List Frame) → FramesLive live n m fs → FramesLive new n' m' fs
frames_stay live new n n' m m' s r q [] l = tt
frames_stay live new n n' m m' s r q (frame.Test a b env j ∷ fs) l = (omega (arith, q, l.0), frames_stay live new n n' m m' s r q fs l.1)
frames_stay live new n n' m m' s r q (frame.Other c b env j saved rest ∷ fs) l = ((s c l.0.0, omega (arith, q, l.0.1), s saved l.0.2, s rest.edge l.0.3), frames_stay live new n n' m m' s r q fs l.1)
frames_stay live new n n' m m' s r q (frame.Join c x saved ∷ fs) l = ((s c l.0.0, omega (arith, r, l.0.1), s saved.edge l.0.2), frames_stay live new n n' m m' s r q fs l.1)
frames_stay live new n n' m m' s r q (frame.Arguments w done ts env j ∷ fs) l = ((all_below_more n n' r done.items l.0.0, omega (arith, q, l.0.1), l.0.2), frames_stay live new n n' m m' s r q fs l.1)

-- an assignment of one edge is one of another that is true where this is
pub found_moves : (t u : Edge → (ℕ → Bool) → Bool) (width later : ℕ) (e h : Edge) → later ≡ width → ((a : ℕ → Bool) → t e a ≡ true → u h a ≡ true) → (o : Option (List Bool)) → IfSome o (λ w. IsWitness t width e w) → IfSome o (λ w. IsWitness u later h w)
found_moves t u width later e h same f None p = tt
found_moves t u width later e h same f (Some w) p = record { count = p.count ∙ sym same; reaches = f (value_at w) p.reaches }

-- ---- the truths of live edges stay, and so do the paths
module _ (t u : Edge → (ℕ → Bool) → Bool) (live : Edge → Type 0) (n m : ℕ) (same : (c : Edge) (a : ℕ → Bool) → live c → u c a ≡ t c a) where
  pub reach_same : (fs : List Frame) → FramesLive live n m fs → (a : ℕ → Bool) → reach u fs a ≡ reach t fs a
  reach_same [] l a = refl
  reach_same (frame.Test x y env j ∷ fs) l a = reach_same fs l.1 a
  reach_same (frame.Other c b env j saved rest ∷ fs) l a = λ i. reach_same fs l.1 a i && same c a l.0.0 i
  reach_same (frame.Join c x saved ∷ fs) l a = λ i. reach_same fs l.1 a i && not (same c a l.0.0 i)
  reach_same (frame.Arguments w done ts env j ∷ fs) l a = reach_same fs l.1 a

  pub is_path_same : (start path : Edge) (r q : (ℕ → Bool) → Bool) → live start → live path → ((a : ℕ → Bool) → q a ≡ r a) → IsPath t start r path → IsPath u start q path
  is_path_same start path r q ls lp e p = record { says = λ a. same path a lp ∙ (p.says a ∙ (λ i. sym (same start a ls) i && sym (e a) i)) }

  pub is_witnessed_same : (width later : ℕ) (onward : Path) → later ≡ width → live onward.edge → IsWitnessed t width onward → IsWitnessed u later onward
  is_witnessed_same width later onward e l w = found_moves t u width later onward.edge onward.edge e (λ a p. same onward.edge a l ∙ p) onward.found w

  pub paths_same : (width later : ℕ) (start : Edge) → later ≡ width → live start → (fs : List Frame) → FramesLive live n m fs → PathsRight t width start fs → PathsRight u later start fs
  paths_same width later start e ls [] l p = tt
  paths_same width later start e ls (frame.Test x y env j ∷ fs) l p = paths_same width later start e ls fs l.1 p
  paths_same width later start e ls (frame.Other c b env j saved rest ∷ fs) l p = (
    is_path_same start saved (reach t fs) (reach u fs) ls l.0.2 (reach_same fs l.1) p.0,
    is_path_same start rest.edge (λ a. reach t fs a && not (t c a)) (λ a. reach u fs a && not (u c a)) ls l.0.3 (λ a i. reach_same fs l.1 a i && not (same c a l.0.0 i)) p.1,
    is_witnessed_same width later rest e l.0.3 p.2,
    paths_same width later start e ls fs l.1 p.3,
  )
  paths_same width later start e ls (frame.Join c x saved ∷ fs) l p =
      (is_path_same start saved.edge (reach t fs) (reach u fs) ls l.0.2 (reach_same fs l.1) p.0, is_witnessed_same width later saved e l.0.2 p.1, paths_same width later start e ls fs l.1 p.2)
  paths_same width later start e ls (frame.Arguments w done ts env j ∷ fs) l p = paths_same width later start e ls fs l.1 p

pub objects_same : (f h : Sob → Object) (n : ℕ) → ((x : Sob) → x.number < n → h x ≡ f x) → (ps : List (ℕ × Sob)) → PairsBelow n ps → objects_of h ps ≡ objects_of f ps
objects_same f h n e [] l = refl
objects_same f h n e (p ∷ ps) l = λ i. (p.0, e p.1 l.0 i) ∷ objects_same f h n e ps l.1 i

-- ---- a state over what was kept
module _ {B : Type 0} (g : Ghosts B) (start : Edge) (old new : SobsSeen B) (es later : List (List (ℕ × Sob))) (kept : Leaves g old new) (envs : EnvsKept es later) (lower : EnvsBelow (length new.nodes) later) where
  pub env_same : (a : ℕ → Bool) → EnvsBelow (length old.nodes) es → (i : ℕ) → i < length es → objects_of (λ x. stands_for g new x a) (get_or later i []) ≡ objects_of (λ x. stands_for g old x a) (get_or es i [])
  env_same a below i l =
      ap (objects_of (λ x. stands_for g new x a)) (envs.same i l)
      ∙ objects_same (λ x. stands_for g old x a) (λ x. stands_for g new x a) (length old.nodes) (λ x h. kept.grows.same x a h) (get_or es i []) (below i)

  pub makes_kept : (ds : List Definition) (k : ℕ) (a : ℕ → Bool) (fs : List Frame) (whole o : Option Walk) → EnvsBelow (length old.nodes) es → FramesLive (g.live old.store) (length old.nodes) (length es) fs → Makes (at g ds k old es a) fs whole o → Makes (at g ds k new later a) fs whole o
  makes_kept ds k a fs whole o below l p =
      makes_same ds k (λ c. g.truth_of old.store c a) (λ c. g.truth_of new.store c a) (λ x. stands_for g old x a) (λ x. stands_for g new x a)
      (λ i. objects_of (λ x. stands_for g old x a) (get_or es i [])) (λ i. objects_of (λ x. stands_for g new x a) (get_or later i []))
      (g.live old.store) (length old.nodes) (length es) (λ c h. kept.grows.store.same c a h) (λ x h. kept.grows.same x a h) (env_same a below) fs whole o l p

  -- the same frames and the same path
  pub ready_kept : (path : Path) (fs : List Frame) (f h : Focus) → Ready g old es start path fs f → FocusLive (length new.nodes) (length later) h → Ready g new later start path fs h
  ready_kept path fs f h r l = record {
    whole = kept.grows.whole;
    envs = lower;
    some_env = omega (arith, envs.no_fewer, r.some_env);
    start_live = kept.grows.store.stays start r.start_live;
    path_live = kept.grows.store.stays path.edge r.path_live;
    frames = frames_stay (g.live old.store) (g.live new.store) _ _ _ _ kept.grows.store.stays kept.grows.no_fewer envs.no_fewer fs r.frames;
    focus = l;
    is_path = is_path_same (g.truth_of old.store) (g.truth_of new.store) (g.live old.store) (length old.nodes) (length es) kept.grows.store.same start path.edge (reach (g.truth_of old.store) fs) (reach (g.truth_of new.store) fs) r.start_live r.path_live
        (reach_same (g.truth_of old.store) (g.truth_of new.store) (g.live old.store) (length old.nodes) (length es) kept.grows.store.same fs r.frames) r.is_path;
    witnessed = is_witnessed_same (g.truth_of old.store) (g.truth_of new.store) (g.live old.store) (length old.nodes) (length es) kept.grows.store.same (g.width_of old.store) (g.width_of new.store) path kept.width r.path_live r.witnessed;
    paths = paths_same (g.truth_of old.store) (g.truth_of new.store) (g.live old.store) (length old.nodes) (length es) kept.grows.store.same (g.width_of old.store) (g.width_of new.store) start kept.width r.start_live fs r.frames r.paths;
  }

  -- a turn that leaves the frames and the path: the old state makes the whole of some walk, and the new focus is that walk
  pub turn_kept : (ds : List Definition) (path : Path) (fs : List Frame) (f h : Focus) → Ready g old es start path fs f → FocusLive (length new.nodes) (length later) h
      → ((k : ℕ) (a : ℕ → Bool) (whole : Option Walk) → g.truth_of old.store start a ≡ true → FocusMakes (at g ds k old es a) fs whole f → (o : Option Walk) × (Makes (at g ds k old es a) fs whole o × (Makes (at g ds k new later a) fs whole o → FocusMakes (at g ds k new later a) fs whole h)))
      → Turn g ds start old es fs f new later path fs h
  turn_kept ds path fs f h r l via = record {
    envs_kept = envs;
    ready = ready_kept path fs f h r l;
    makes = λ k a whole s p. let q = via k a whole s p in q.1.1 (makes_kept ds k a fs whole q.0 r.envs r.frames q.1.0);
  }

  -- the same, where the value may come from elsewhere
  pub turns_kept : (ds : List Definition) (path : Path) (fs : List Frame) (f h : Focus) → Ready g old es start path fs f → FocusLive (length new.nodes) (length later) h
      → ((k : ℕ) (a : ℕ → Bool) (whole : Option Walk) → g.truth_of old.store start a ≡ true → FocusMakes (at g ds k old es a) fs whole f → ((o : Option Walk) × (Makes (at g ds k old es a) fs whole o × (Makes (at g ds k new later a) fs whole o → FocusMakes (at g ds k new later a) fs whole h))) ⊎ (whole ≡ None))
      → Turns g ds start old es fs f new later path fs h
  turns_kept ds path fs f h r l via = record {
    envs_kept = envs;
    ready = ready_kept path fs f h r l;
    makes = λ k a whole s p. elim (via k a whole s p) [
      | inl q ↦ inl (q.1.1 (makes_kept ds k a fs whole q.0 r.envs r.frames q.1.0))
      | inr e ↦ inr e
    ];
  }

-- a turn that keeps what the frames make
pub turns_of : {B : Type 0} (g : Ghosts B) (ds : List Definition) (start : Edge) (old new : SobsSeen B) (es later : List (List (ℕ × Sob))) (onward : Path) (fs hs : List Frame) (f h : Focus) → Turn g ds start old es fs f new later onward hs h → Turns g ds start old es fs f new later onward hs h
turns_of g ds start old new es later onward fs hs f h t = record { envs_kept = t.envs_kept; ready = t.ready; makes = λ k a whole s p. inl (t.makes k a whole s p) }
