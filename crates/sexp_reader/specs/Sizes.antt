-- What is small about the objects of a text.
use Rattle.std.specs.Prelude.{◌≤◌}
use Rattle.gl_logic.specs.Object.{Object, Int, Character, Cons}
use Rattle.gl_logic.specs.Width.{Fits}

-- each integer of the object is within 128 bits
abbrev pub IsNarrow : Object → Type 0
IsNarrow (Int z) = Fits z
IsNarrow (Cons a d) = IsNarrow a × IsNarrow d
IsNarrow _ = Unit {0}

-- each character of the object has a code of at most 127
abbrev pub IsAscii : Object → Type 0
IsAscii (Character code) = code ≤ 127
IsAscii (Cons a d) = IsAscii a × IsAscii d
IsAscii _ = Unit {0}
