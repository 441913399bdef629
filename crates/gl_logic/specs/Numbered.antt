-- Objects whose texts a table has.
use Rattle.std.specs.Prelude.{ℕ, ◌<◌}
use Rattle.gl_logic.specs.Object.{Object, Symbol, Text, Cons}

-- each symbol and string of the object has one of the first n texts
abbrev pub IsNumbered : ℕ → Object → Type 0
IsNumbered n (Symbol t) = t < n
IsNumbered n (Text t) = t < n
IsNumbered n (Cons a d) = IsNumbered n a × IsNumbered n d
IsNumbered n _ = Unit {0}
