-- Where every term has a value.
use Rattle.std.specs.Prelude.{ℕ, List}
use Rattle.gl_logic.specs.Object.{Object}
use Rattle.gl_logic.specs.Definition.{Definition}
use Rattle.gl_logic.specs.Exp.{Exp}
use Rattle.gl_logic.specs.IsTermOf.{IsTermOf}
use Rattle.gl_logic.specs.Evaluate.{HasValue}

-- each term of the definitions has a value on each environment
abbrev pub IsTotal : List Definition → Type 0
IsTotal definitions = (env : List (ℕ × Object)) (t : Exp) → IsTermOf definitions t → (x : Object) × HasValue definitions env t x
