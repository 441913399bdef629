-- Whether two objects are equal, as a test.
use Rattle.std.specs.Prelude.{Bool, false, ◌&&◌, eqb}
use Rattle.std.specs.Ordering.{int_eq}
use Rattle.gl_logic.specs.Object.{Object, Int, Character, Symbol, Text, Cons}

abbrev pub object_eq : Object → Object → Bool
object_eq (Int a) (Int b) = int_eq a b
object_eq (Character a) (Character b) = eqb a b
object_eq (Symbol a) (Symbol b) = eqb a b
object_eq (Text a) (Text b) = eqb a b
object_eq (Cons a d) (Cons b e) = object_eq a b && object_eq d e
object_eq _ _ = false

-- NIL alone is false
abbrev pub is_nil : Object → Bool
is_nil (Symbol n) = eqb n 0
is_nil _ = false
