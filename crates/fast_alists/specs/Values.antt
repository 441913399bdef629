-- What the definitions of the same names give.
use Rattle.std.specs.Prelude.{◌<◌, List, [], ◌∷◌, length, Option, None, Some}
use Rattle.gl_logic.specs.ConstantCall.{constant_call}
use Rattle.gl_logic.specs.Definition.{Definition}
use Rattle.gl_logic.specs.Evaluate.{HasValue}
use Rattle.gl_logic.specs.IsGround.{AreGround}
use Rattle.gl_logic.specs.Object.{Object, nil}
use Rattle.fast_alists.specs.Alists.{first_pair, forked, with_key}

-- NIL where there is no pair
abbrev pub pair_or_nil : Option Object → Object
pair_or_nil None = nil
pair_or_nil (Some pair) = pair

-- definitions that begin with the ground ones
pub record HoldsGround (definitions : List Definition) : Type 0 where
  pub same_ground : AreGround definitions
  pub all : 42 < length definitions

-- (hons-acons key value alist), (hons-assoc-equal key alist) and (fast-alist-fork alist ans), whose numbers are 37, 40
-- and 42, have these values
abbrev pub AconsGives : List Definition → Object → Object → Object → Object → Type 0
AconsGives definitions key value alist x = HasValue definitions [] (constant_call 37 (key ∷ value ∷ alist ∷ [])) x

abbrev pub GetGives : List Definition → Object → Object → Object → Type 0
GetGives definitions key alist x = HasValue definitions [] (constant_call 40 (key ∷ alist ∷ [])) x

abbrev pub ForkGives : List Definition → Object → Object → Object → Type 0
ForkGives definitions alist ans x = HasValue definitions [] (constant_call 42 (alist ∷ ans ∷ [])) x

-- ---- so what the tables answer is right
abbrev pub AconsIsRight : List Definition → Type 0
AconsIsRight definitions = (key value alist : Object) → AconsGives definitions key value alist (with_key key value alist)

abbrev pub GetIsRight : List Definition → Type 0
GetIsRight definitions = (key alist : Object) → GetGives definitions key alist (pair_or_nil (first_pair key alist))

abbrev pub ForkIsRight : List Definition → Type 0
ForkIsRight definitions = (alist ans : Object) → ForkGives definitions alist ans (forked alist ans)
