-- Objects within 128 bits.
use Rattle.gl_logic.specs.Object.{Object, Int, Cons}
use Rattle.gl_logic.specs.Wide.{IsWideObject}

-- no part is an integer outside 128 bits
abbrev pub IsNarrow : Object → Type 0
IsNarrow (Cons a d) = IsNarrow a × IsNarrow d
IsNarrow (Int z) = ¬ IsWideObject (Int z)
IsNarrow _ = Unit {0}
