-- Environments of symbolic objects, after further calls.
use Rattle.std.proofs.Common.{◌≡◌, ◌∙◌, ap, refl, ℕ, Bool, List, [], ◌∷◌, get_or}
use Rattle.std.specs.List.{All}
use Rattle.std.proofs.lemmas.List.Elements.{All-head, All-tail}
use Rattle.bfr_store.specs.declared.edge.Edge.{Edge}
use Rattle.bfr_store.specs.declared.meaning.Meaning.{Ghosts}
use Rattle.gl_logic.specs.Object.{Object}
use Rattle.shape_spec.specs.ShapeSeen.{ShapeSeen}
use Rattle.shape_spec.specs.declared.theorem.Thm.{Thm}
use Rattle.sym_objects.specs.declared.sob.Sob.{Sob}
use Rattle.sym_objects.specs.Keeps.{Grows}
use Rattle.sym_objects.specs.Seen.{SobsSeen, IsLive, stands_for}
use Rattle.gl_interp.specs.Causes.{StandsFor}
use Rattle.gl_interp.specs.Environments.{AreLive, env_under, objects_of}
use Rattle.gl_symbolic.specs.Steps.{StandsUnder}

objects_same : (f h : Sob → Object) (P : Sob → Type 0) → ((x : Sob) → P x → f x ≡ h x) → (ps : List (ℕ × Sob)) → All (λ p. P p.1) ps → objects_of f ps ≡ objects_of h ps
objects_same f h P s [] l = refl
objects_same f h P s (p ∷ ps) l =
    ap (λ z. (p.0, z) ∷ objects_of f ps) (s p.1 (All-head (λ (q : ℕ × Sob). P q.1) p ps l)) ∙ ap (λ zs. (p.0, h p.1) ∷ zs) (objects_same f h P s ps (All-tail (λ (q : ℕ × Sob). P q.1) p ps l))

module _ {B : Type 0} (g : Ghosts B) (old new : SobsSeen B) (grows : Grows g old new) (env : List (ℕ × Sob)) (live : AreLive old env) where
  pub env_live : AreLive new env
  env_live i d l = grows.stays (get_or env i d).1 (live i d l)

  pub env_same : (a : ℕ → Bool) → env_under g new env a ≡ env_under g old env a
  env_same a = objects_same (λ x. stands_for g new x a) (λ x. stands_for g old x a) (IsLive old) (λ x l. grows.same x a l) env live

module _ {B : Type 0} (g : Ghosts B) (old new : SobsSeen B) (grows : Grows g old new) (same_width : g.width_of new.store ≡ g.width_of old.store) where
  pub stands_later : (b : List (ℕ × ShapeSeen)) (env : List (ℕ × Sob)) → StandsFor g old b env → StandsFor g new b env
  stands_later b env s = record {
    live = env_live g old new grows env s.live;
    input = λ a. env_same g old new grows env s.live a ∙ s.input a;
    width = same_width ∙ s.width;
  }

-- an input of the bindings, under any path
pub stands_under : {B : Type 0} (g : Ghosts B) (s : SobsSeen B) (thm : Thm) (path : Edge) (env : List (ℕ × Sob)) → StandsFor g s thm.bindings env → StandsUnder g s thm path env
stands_under g s thm path env h = record { live = h.live; input = λ a p. h.input a }
