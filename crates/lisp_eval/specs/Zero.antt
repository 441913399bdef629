-- `zp`: what it gives, and how many visits its body takes.
use Rattle.std.specs.Prelude.{◌≡◌, ℕ, Bool, true, pos, int_le, List}
use Rattle.gl_logic.specs.Definition.{Definition}
use Rattle.gl_logic.specs.IsGround.{AreGround}
use Rattle.gl_logic.specs.Object.{Object, Int}
use Rattle.lisp_eval.specs.Directs.{OpensAtOnce}

-- among the ground definitions
abbrev pub zp_number : ℕ
zp_number = 7

-- the number of `zp` in definitions that begin with the ground ones, where each call of it is opened
pub record IsZp (definitions : List Definition) (functions : List ℕ) (f : ℕ) : Type 0 where
  pub number : f ≡ zp_number
  pub ground : AreGround definitions
  pub opens : OpensAtOnce definitions functions f

-- T but on a positive integer
abbrev pub zp_holds : Object → Bool
zp_holds (Int i) = int_le i (pos 0)
zp_holds _ = true

abbrev pub zp_visits : Object → ℕ
zp_visits (Int i) = 7
zp_visits _ = 4
