-- What a primitive gives on two integers.
use Rattle.std.specs.Prelude.{Bool, true, false, not, ℤ}
use Rattle.gl_logic.specs.Object.{Object, Int}
use Rattle.gl_logic.specs.ObjectEq.{is_nil}
use Rattle.gl_logic.specs.PrimValue.{prim_of, integer_in}
use Rattle.gl_logic.specs.declared.prim.Primitive.{Primitive}
use Rattle.gl_logic.specs.declared.prim.Primitive.TheVariants as prim

-- the integer that an operation gives
abbrev pub integer_result : Primitive → ℤ → ℤ → ℤ
integer_result p i j = integer_in (prim_of p (Int i) (Int j))

-- whether a test holds
abbrev pub test_result : Primitive → ℤ → ℤ → Bool
test_result p i j = not (is_nil (prim_of p (Int i) (Int j)))

abbrev pub IsShift : Primitive → Type 0
IsShift prim.Ash = Unit {0}
IsShift _ = ⊥

abbrev pub IsQuotient : Primitive → Type 0
IsQuotient prim.Floor = Unit {0}
IsQuotient prim.Mod = Unit {0}
IsQuotient prim.Truncate = Unit {0}
IsQuotient prim.Rem = Unit {0}
IsQuotient _ = ⊥

-- whether a test of objects holds
abbrev pub holds : Primitive → Object → Object → Bool
holds p x y = not (is_nil (prim_of p x y))

-- the primitives whose value is always T or NIL
abbrev pub is_predicate : Primitive → Bool
is_predicate prim.Consp = true
is_predicate prim.Integerp = true
is_predicate prim.Symbolp = true
is_predicate prim.Stringp = true
is_predicate prim.Characterp = true
is_predicate prim.Equal = true
is_predicate prim.Not = true
is_predicate prim.Less = true
is_predicate prim.Logbitp = true
is_predicate prim.UnsignedByteP = true
is_predicate prim.SignedByteP = true
is_predicate _ = false

-- the tests of a width
abbrev pub IsByteTest : Primitive → Type 0
IsByteTest prim.UnsignedByteP = Unit {0}
IsByteTest prim.SignedByteP = Unit {0}
IsByteTest _ = ⊥

-- the tests of two integers that count what is none as 0
abbrev pub IsNumberTest : Primitive → Type 0
IsNumberTest prim.Less = Unit {0}
IsNumberTest prim.Logbitp = Unit {0}
IsNumberTest _ = ⊥

-- the other primitives
abbrev pub is_other : Primitive → Bool
is_other prim.Cons = true
is_other prim.Car = true
is_other prim.Cdr = true
is_other prim.CharCode = true
is_other prim.CodeChar = true
is_other _ = false
