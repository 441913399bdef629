-- How a ghost value keeps a primitive: by its number in the language's table, from 0.
use Rattle.std.specs.Prelude.{◌≡◌, ℕ, refl, List, [], ◌∷◌, get_or}
use Rattle.std.specs.Coded.{Coded, code_by, coded_ℕ}
use Rattle.gl_logic.specs.declared.prim.Primitive.{Primitive}
use Rattle.gl_logic.specs.declared.prim.Primitive.TheVariants as prim

abbrev pub prim_number : Primitive → ℕ
prim_number prim.Consp = 0
prim_number prim.Integerp = 1
prim_number prim.Symbolp = 2
prim_number prim.Stringp = 3
prim_number prim.Characterp = 4
prim_number prim.Cons = 5
prim_number prim.Car = 6
prim_number prim.Cdr = 7
prim_number prim.Equal = 8
prim_number prim.Not = 9
prim_number prim.CharCode = 10
prim_number prim.CodeChar = 11
prim_number prim.BinaryPlus = 12
prim_number prim.BinaryTimes = 13
prim_number prim.UnaryMinus = 14
prim_number prim.Less = 15
prim_number prim.Floor = 16
prim_number prim.Mod = 17
prim_number prim.Truncate = 18
prim_number prim.Rem = 19
prim_number prim.Ash = 20
prim_number prim.BinaryLogand = 21
prim_number prim.BinaryLogior = 22
prim_number prim.BinaryLogxor = 23
prim_number prim.Lognot = 24
prim_number prim.Logbitp = 25
prim_number prim.IntegerLength = 26
prim_number prim.UnsignedByteP = 27
prim_number prim.SignedByteP = 28

-- the primitives in the order of the table
abbrev pub all_prims : List Primitive
all_prims =
    prim.Consp ∷ prim.Integerp ∷ prim.Symbolp ∷ prim.Stringp ∷ prim.Characterp
    ∷ prim.Cons ∷ prim.Car ∷ prim.Cdr ∷ prim.Equal ∷ prim.Not ∷ prim.CharCode ∷ prim.CodeChar
    ∷ prim.BinaryPlus ∷ prim.BinaryTimes ∷ prim.UnaryMinus ∷ prim.Less
    ∷ prim.Floor ∷ prim.Mod ∷ prim.Truncate ∷ prim.Rem ∷ prim.Ash
    ∷ prim.BinaryLogand ∷ prim.BinaryLogior ∷ prim.BinaryLogxor ∷ prim.Lognot
    ∷ prim.Logbitp ∷ prim.IntegerLength ∷ prim.UnsignedByteP ∷ prim.SignedByteP ∷ []

abbrev pub prim_at : ℕ → Primitive
prim_at n = get_or all_prims n prim.Consp

pub prim-at-number : (p : Primitive) → prim_at (prim_number p) ≡ p
prim-at-number prim.Consp = refl
prim-at-number prim.Integerp = refl
prim-at-number prim.Symbolp = refl
prim-at-number prim.Stringp = refl
prim-at-number prim.Characterp = refl
prim-at-number prim.Cons = refl
prim-at-number prim.Car = refl
prim-at-number prim.Cdr = refl
prim-at-number prim.Equal = refl
prim-at-number prim.Not = refl
prim-at-number prim.CharCode = refl
prim-at-number prim.CodeChar = refl
prim-at-number prim.BinaryPlus = refl
prim-at-number prim.BinaryTimes = refl
prim-at-number prim.UnaryMinus = refl
prim-at-number prim.Less = refl
prim-at-number prim.Floor = refl
prim-at-number prim.Mod = refl
prim-at-number prim.Truncate = refl
prim-at-number prim.Rem = refl
prim-at-number prim.Ash = refl
prim-at-number prim.BinaryLogand = refl
prim-at-number prim.BinaryLogior = refl
prim-at-number prim.BinaryLogxor = refl
prim-at-number prim.Lognot = refl
prim-at-number prim.Logbitp = refl
prim-at-number prim.IntegerLength = refl
prim-at-number prim.UnsignedByteP = refl
prim-at-number prim.SignedByteP = refl

abbrev pub coded_prim : Coded Primitive
coded_prim = code_by ℕ coded_ℕ prim_number prim_at prim-at-number
