-- Terms whose symbolic value is made without a path.
use Rattle.std.specs.Prelude.{ℕ, Bool, ◌≡◌, ◌<◌, List, length, cond, Some}
use Rattle.bfr_store.specs.declared.meaning.Meaning.{Ghosts}
use Rattle.gl_logic.specs.Definition.{Definition}
use Rattle.gl_logic.specs.Exp.{Exp}
use Rattle.gl_logic.specs.Object.{Object}
use Rattle.gl_logic.specs.Walk.{Walk, walk}
use Rattle.sym_objects.specs.declared.sob.Sob.{Sob}
use Rattle.sym_objects.specs.Seen.{SobsSeen, stands_for}
use Rattle.gl_interp.specs.Environments.{env_under}
use Rattle.gl_interp.specs.Envs.{EnvsBelow}

-- an environment of live objects may be looked into
pub record MayLook {B : Type 0} (s : SobsSeen B) (bindings : List (List (ℕ × Sob))) (env : ℕ) : Type 0 where
  pub below : EnvsBelow (length s.nodes) bindings
  pub live : env < length bindings

-- the term has this value, whatever the definitions are and however few of them may be opened
abbrev pub IsPlainValue : List (ℕ × Object) → Exp → Object → Type 0
IsPlainValue env e x = (ds : List Definition) (n : ℕ) → (w : Walk) × ((walk ds n env e ≡ Some w) × (w.value ≡ x))

-- the object stands, under each assignment, for the term's value on the environment
abbrev pub StandsForTerm : {B : Type 0} → Ghosts B → SobsSeen B → SobsSeen B → List (ℕ × Sob) → Exp → Sob → Type 0
StandsForTerm g old new env e r = (a : ℕ → Bool) → IsPlainValue (env_under g old env a) e (stands_for g new r a)

-- the object stands, under each assignment, for the value of the one term where the test is true and of the other elsewhere;
-- both have values
pub record StandsForBranches {B : Type 0} (g : Ghosts B) (old new : SobsSeen B) (env : List (ℕ × Sob)) (test : (ℕ → Bool) → Bool) (e h : Exp) (r : Sob) : Type 0 where
  pub first : (ℕ → Bool) → Object
  pub second : (ℕ → Bool) → Object
  pub is_first : (a : ℕ → Bool) → IsPlainValue (env_under g old env a) e (first a)
  pub is_second : (a : ℕ → Bool) → IsPlainValue (env_under g old env a) h (second a)
  pub stands : (a : ℕ → Bool) → stands_for g new r a ≡ cond (test a) (first a) (second a)
