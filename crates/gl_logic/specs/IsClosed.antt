-- Lists of definitions that call no others.
use Rattle.std.specs.Prelude.{◌≡◌, ℕ, List, Some, slice_get}
use Rattle.gl_logic.specs.Definition.{Definition}
use Rattle.gl_logic.specs.IsTermOf.{IsTermOf}

abbrev pub IsClosed : List Definition → Type 0
IsClosed definitions = (i : ℕ) (d : Definition) → slice_get definitions i ≡ Some d → IsTermOf definitions d.body
