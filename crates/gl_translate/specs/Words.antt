-- Tables of words, and the words that name primitives.
use Rattle.std.specs.Prelude.{ℕ, Bool, ◌&&◌, ◌||◌, ◌-◌, ◌==◌, leb, List, [], ◌∷◌, length, map, take, drop, codes, bytes_eq, Option}
use Rattle.std.specs.List.{find, list_all}
use Rattle.std.specs.Option.{option_map}
use Rattle.gl_logic.specs.declared.prim.Primitive.{Primitive}
use Rattle.gl_logic.specs.declared.prim.Primitive.TheVariants as prim
use Rattle.gl_logic.specs.Wording.{first_byte, last_byte}

-- what stands beside a word in a table
abbrev pub beside : {A : Type 0} → List (List ℕ × A) → List ℕ → Option A
beside table word = option_map (λ e. e.1) (find (λ e. bytes_eq word e.0) table)

-- the primitives by their words
abbrev pub prim_words : List (List ℕ × Primitive)
prim_words =
    (codes "CONSP", prim.Consp)
    ∷ (codes "INTEGERP", prim.Integerp)
    ∷ (codes "SYMBOLP", prim.Symbolp)
    ∷ (codes "STRINGP", prim.Stringp)
    ∷ (codes "CHARACTERP", prim.Characterp)
    ∷ (codes "CONS", prim.Cons)
    ∷ (codes "CAR", prim.Car)
    ∷ (codes "CDR", prim.Cdr)
    ∷ (codes "EQUAL", prim.Equal)
    ∷ (codes "NOT", prim.Not)
    ∷ (codes "CHAR-CODE", prim.CharCode)
    ∷ (codes "CODE-CHAR", prim.CodeChar)
    ∷ (codes "BINARY-+", prim.BinaryPlus)
    ∷ (codes "BINARY-*", prim.BinaryTimes)
    ∷ (codes "UNARY--", prim.UnaryMinus)
    ∷ (codes "<", prim.Less)
    ∷ (codes "FLOOR", prim.Floor)
    ∷ (codes "MOD", prim.Mod)
    ∷ (codes "TRUNCATE", prim.Truncate)
    ∷ (codes "REM", prim.Rem)
    ∷ (codes "ASH", prim.Ash)
    ∷ (codes "BINARY-LOGAND", prim.BinaryLogand)
    ∷ (codes "BINARY-LOGIOR", prim.BinaryLogior)
    ∷ (codes "BINARY-LOGXOR", prim.BinaryLogxor)
    ∷ (codes "LOGNOT", prim.Lognot)
    ∷ (codes "LOGBITP", prim.Logbitp)
    ∷ (codes "INTEGER-LENGTH", prim.IntegerLength)
    ∷ (codes "UNSIGNED-BYTE-P", prim.UnsignedByteP)
    ∷ (codes "SIGNED-BYTE-P", prim.SignedByteP)
    ∷ []

abbrev pub prim_named : List ℕ → Option Primitive
prim_named word = beside prim_words word

-- ---- CAAR to CDDDDR: C, two to four letters A and D, and R
abbrev pub letters_of : List ℕ → List ℕ
letters_of word = take (length word - 2) (drop 1 word)

abbrev pub is_path : List ℕ → Bool
is_path word = (leb 4 (length word) && leb (length word) 6) && ((first_byte word == 67) && ((last_byte word == 82) && list_all (λ b. (b == 65) || (b == 68)) (letters_of word)))
