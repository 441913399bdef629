-- Values that may stand outside the arena, and what they stand for.
use Rattle.std.specs.Prelude.{ℕ, ◌<◌, List, [], ◌∷◌, length, map, eqb, cond}
use Rattle.gl_logic.specs.Object.{Object}
use Rattle.gl_logic.specs.Object as object
use Rattle.hons_arena.specs.Ids.{object_at}
use Rattle.hons_arena.specs.declared.id.Id.TheVariants as id
use Rattle.lisp_eval.specs.Narrow.{IsNarrow}
use Rattle.lisp_eval.specs.declared.value.Local.{Local}
use Rattle.lisp_eval.specs.declared.value.Value.{Value}
use Rattle.lisp_eval.specs.declared.value.Value.TheVariants as value

abbrev pub value_object : List Object → Value → Object
value_object objects (value.Int i) = object.Int i
value_object objects (value.Cell n) = object_at objects (id.Cell n)
value_object objects (value.Symbol t) = object.Symbol t.number
value_object objects (value.Text t) = object.Text t.number

-- an integer within 128 bits, a cell that is there, or any symbol or string
abbrev pub IsLiveValue : List Object → Value → Type 0
IsLiveValue objects (value.Int i) = IsNarrow (object.Int i)
IsLiveValue objects (value.Cell n) = n < length objects
IsLiveValue objects (value.Symbol t) = Unit {0}
IsLiveValue objects (value.Text t) = Unit {0}

-- the first local of a name gives its value
abbrev pub local_in : List Local → ℕ → Value
local_in [] v = value.Symbol (record { number = 0 })
local_in (l ∷ locals) v = cond (eqb l.name.number v) l.value (local_in locals v)

abbrev pub locals_of : List Object → List Local → List (ℕ × Object)
locals_of objects locals = map (λ l. (l.name.number, value_object objects l.value)) locals

-- the same, in whatever arena
abbrev pub on_locals : List Local → List Object → List (ℕ × Object)
on_locals locals objects = locals_of objects locals
