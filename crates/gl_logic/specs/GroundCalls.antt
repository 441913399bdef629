-- What a call of a ground definition is, in any world.
use Rattle.std.specs.Prelude.{◌≡◌, ℕ, ◌<◌, List, [], length}
use Rattle.gl_logic.specs.Object.{Object}
use Rattle.gl_logic.specs.Definition.{Definition}
use Rattle.gl_logic.specs.Walk.{Walks, opened, body_walk, walk}
use Rattle.gl_logic.specs.ConstantCall.{constant_call}
use Rattle.gl_logic.specs.Ground.{ground, ground_definitions}
use Rattle.gl_logic.specs.IsGround.{AreGround}

-- f is the number of a ground definition that these definitions hold
pub record IsGroundIn (definitions : List Definition) (f : ℕ) : Type 0 where
  pub same_ground : AreGround definitions
  pub there : f < length definitions
  pub is_ground : f < length ground

-- it opens as where there are the ground definitions alone
abbrev pub OpensAsGround : List Definition → ℕ → Type 0
OpensAsGround definitions f = (n : ℕ) (rs : Walks) → opened definitions n f rs ≡ opened ground_definitions n f rs

abbrev pub WalksAsGround : List Definition → ℕ → Type 0
WalksAsGround definitions f = (n : ℕ) (args : List Object) → body_walk definitions n f args ≡ body_walk ground_definitions n f args

abbrev pub IsAsGroundOnConstants : List Definition → ℕ → Type 0
IsAsGroundOnConstants definitions f = (n : ℕ) (env : List (ℕ × Object)) (args : List Object) → walk definitions n env (constant_call f args) ≡ walk ground_definitions n [] (constant_call f args)
