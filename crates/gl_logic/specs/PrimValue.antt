-- The value of each primitive on all objects.
use Rattle.std.specs.Prelude.{ℕ, Bool, true, false, if◌then◌else◌, ltb, List, get_or, ℤ, pos, ◌+ℤ◌, ◌*ℤ◌, neg_ℤ, int_lt}
use Rattle.gl_logic.specs.Object.{Object, Int, Character, Symbol, Text, Cons, nil, boolean_object, car, cdr}
use Rattle.gl_logic.specs.ObjectEq.{object_eq, is_nil}
use Rattle.gl_logic.specs.Quotients.{floor_ℤ, mod_ℤ, truncate_ℤ, rem_ℤ}
use Rattle.gl_logic.specs.Bitwise.{bit_at, not_ℤ, and_ℤ, or_ℤ, xor_ℤ}
use Rattle.gl_logic.specs.Shifts.{ash_ℤ}
use Rattle.gl_logic.specs.Lengths.{integer_length}
use Rattle.gl_logic.specs.Bytes.{is_unsigned_byte, is_signed_byte}
use Rattle.gl_logic.specs.declared.prim.Primitive.{Primitive}
use Rattle.gl_logic.specs.declared.prim.Primitive.TheVariants as prim

-- ---- what an object counts as
-- a non-integer counts as 0 where an integer is wanted
abbrev pub integer_in : Object → ℤ
integer_in (Int i) = i
integer_in _ = pos 0

-- and whatever is no natural number counts as 0 where one is wanted
abbrev pub natural_in : Object → ℕ
natural_in (Int (pos n)) = n
natural_in _ = 0

abbrev pub code_in : Object → ℕ
code_in (Character c) = c
code_in _ = 0

-- the character of code 0 for a number outside 0 to 255
abbrev pub character_of : ℕ → Object
character_of n = Character (if ltb n 256 then n else 0)

-- ---- the kinds
abbrev pub is_cons : Object → Bool
is_cons (Cons a d) = true
is_cons _ = false

abbrev pub is_integer : Object → Bool
is_integer (Int i) = true
is_integer _ = false

abbrev pub is_symbol : Object → Bool
is_symbol (Symbol n) = true
is_symbol _ = false

abbrev pub is_string : Object → Bool
is_string (Text n) = true
is_string _ = false

abbrev pub is_character : Object → Bool
is_character (Character c) = true
is_character _ = false

-- a test of a width and an integer, false where either is no integer
abbrev pub both_integers : (ℤ → ℤ → Bool) → Object → Object → Bool
both_integers test (Int n) (Int x) = test n x
both_integers test _ _ = false

-- of the first and the second argument
abbrev pub prim_of : Primitive → Object → Object → Object
prim_of prim.Consp x y = boolean_object (is_cons x)
prim_of prim.Integerp x y = boolean_object (is_integer x)
prim_of prim.Symbolp x y = boolean_object (is_symbol x)
prim_of prim.Stringp x y = boolean_object (is_string x)
prim_of prim.Characterp x y = boolean_object (is_character x)
prim_of prim.Cons x y = Cons x y
prim_of prim.Car x y = car x
prim_of prim.Cdr x y = cdr x
prim_of prim.Equal x y = boolean_object (object_eq x y)
prim_of prim.Not x y = boolean_object (is_nil x)
prim_of prim.CharCode x y = Int (pos (code_in x))
prim_of prim.CodeChar x y = character_of (natural_in x)
prim_of prim.BinaryPlus x y = Int (integer_in x +ℤ integer_in y)
prim_of prim.BinaryTimes x y = Int (integer_in x *ℤ integer_in y)
prim_of prim.UnaryMinus x y = Int (neg_ℤ (integer_in x))
prim_of prim.Less x y = boolean_object (int_lt (integer_in x) (integer_in y))
prim_of prim.Floor x y = Int (floor_ℤ (integer_in x) (integer_in y))
prim_of prim.Mod x y = Int (mod_ℤ (integer_in x) (integer_in y))
prim_of prim.Truncate x y = Int (truncate_ℤ (integer_in x) (integer_in y))
prim_of prim.Rem x y = Int (rem_ℤ (integer_in x) (integer_in y))
prim_of prim.Ash x y = Int (ash_ℤ (integer_in x) (integer_in y))
prim_of prim.BinaryLogand x y = Int (and_ℤ (integer_in x) (integer_in y))
prim_of prim.BinaryLogior x y = Int (or_ℤ (integer_in x) (integer_in y))
prim_of prim.BinaryLogxor x y = Int (xor_ℤ (integer_in x) (integer_in y))
prim_of prim.Lognot x y = Int (not_ℤ (integer_in x))
prim_of prim.Logbitp x y = boolean_object (bit_at (natural_in x) (integer_in y))
prim_of prim.IntegerLength x y = Int (pos (integer_length (integer_in x)))
prim_of prim.UnsignedByteP x y = boolean_object (both_integers is_unsigned_byte x y)
prim_of prim.SignedByteP x y = boolean_object (both_integers is_signed_byte x y)

-- an argument that is not there is NIL
abbrev pub prim_value : Primitive → List Object → Object
prim_value p args = prim_of p (get_or args 0 nil) (get_or args 1 nil)

-- how many arguments a primitive takes
abbrev pub prim_arity : Primitive → ℕ
prim_arity prim.Cons = 2
prim_arity prim.Equal = 2
prim_arity prim.BinaryPlus = 2
prim_arity prim.BinaryTimes = 2
prim_arity prim.Less = 2
prim_arity prim.Floor = 2
prim_arity prim.Mod = 2
prim_arity prim.Truncate = 2
prim_arity prim.Rem = 2
prim_arity prim.Ash = 2
prim_arity prim.BinaryLogand = 2
prim_arity prim.BinaryLogior = 2
prim_arity prim.BinaryLogxor = 2
prim_arity prim.Logbitp = 2
prim_arity prim.UnsignedByteP = 2
prim_arity prim.SignedByteP = 2
prim_arity _ = 1
