-- What the calls on integers are asked and what they answer.
use Rattle.std.specs.Prelude.{Bool, true, false, List, [], ◌∷◌, take, ℤ}
use Rattle.gl_logic.specs.Object.{Object, Int}
use Rattle.gl_logic.specs.PrimValue.{prim_arity}
use Rattle.gl_logic.specs.Width.{Fits}
use Rattle.gl_logic.specs.declared.prim.Primitive.{Primitive}
use Rattle.gl_logic.specs.declared.prim.Primitive.TheVariants as prim

-- the primitives whose value is always an integer, but for char-code
abbrev pub is_operation : Primitive → Bool
is_operation prim.BinaryPlus = true
is_operation prim.BinaryTimes = true
is_operation prim.UnaryMinus = true
is_operation prim.Floor = true
is_operation prim.Mod = true
is_operation prim.Truncate = true
is_operation prim.Rem = true
is_operation prim.Ash = true
is_operation prim.BinaryLogand = true
is_operation prim.BinaryLogior = true
is_operation prim.BinaryLogxor = true
is_operation prim.Lognot = true
is_operation prim.IntegerLength = true
is_operation _ = false

-- the tests of two integers
abbrev pub is_test : Primitive → Bool
is_test prim.Less = true
is_test prim.Logbitp = true
is_test prim.UnsignedByteP = true
is_test prim.SignedByteP = true
is_test _ = false

-- the arguments of a primitive on integers: the first alone where it takes one
abbrev pub integers_for : Primitive → ℤ → ℤ → List Object
integers_for p a b = take (prim_arity p) (Int a ∷ Int b ∷ [])

-- an integer that is no value of 128 bits
abbrev pub IsTooWide : Object → Type 0
IsTooWide (Int i) = Fits i → ⊥
IsTooWide _ = ⊥
