-- Integers in other bases than ten.
use Rattle.std.specs.Prelude.{◌≡◌, ℕ, ℤ, pos, negsuc, List, [], ◌∷◌, ◌++◌, ◌⊎◌, codes, replicate, unsigned_abs}
use Rattle.std.specs.Int.{w128}
use Rattle.std.specs.Int.RustNames.{bit_xor, FitsSigned}
use Rattle.std.specs.Str.Parse.{IsNumeral, digits_value, signed_digits_value, without_leading_sign}

-- a text in base ten of an integer of 128 bits, with a sign or without
abbrev pub IsInteger : List ℕ → Type 0
IsInteger text = IsNumeral 10 (without_leading_sign text) × FitsSigned w128 (signed_digits_value 10 text)

-- digits of a base come behind what stands there, and denote a number
pub record PutsNumber (base n : ℕ) (old new : List ℕ) : Type 0 where
  pub digits : List ℕ
  pub put : new ≡ old ++ digits
  pub are : IsNumeral base digits
  pub denote : digits_value base digits ≡ n

-- a minus in front of the digits of an integer below zero
abbrev pub minus : ℤ → List ℕ
minus (pos n) = []
minus (negsuc n) = 45 ∷ []

-- " = #x" and " = #b"
abbrev pub hexadecimal_mark : List ℕ
hexadecimal_mark = 32 ∷ 61 ∷ 32 ∷ 35 ∷ 120 ∷ []

abbrev pub binary_mark : List ℕ
binary_mark = 32 ∷ 61 ∷ 32 ∷ 35 ∷ 98 ∷ []

-- what stands in front of an integer, its minus and its digits in hexadecimal, what stands between, and the same in binary
pub record PutsInBases (z : ℤ) (front between old new : List ℕ) : Type 0 where
  pub before : List ℕ
  pub hexadecimal : PutsNumber 16 (unsigned_abs z) (old ++ front ++ minus z) before
  pub binary : PutsNumber 2 (unsigned_abs z) (before ++ between ++ minus z) new

-- the text of an integer, and behind it the same integer in two bases; the text of another object alone
abbrev pub PutsObject : List ℕ → List ℕ → List ℕ → Type 0
PutsObject text old new = (IsInteger text × PutsInBases (signed_digits_value 10 text) (text ++ hexadecimal_mark) binary_mark old new) ⊎ (¬ IsInteger text × (new ≡ old ++ text))

-- cells of a table: the text of an integer, and the same integer in two bases
pub record PutsCells (text old new : List ℕ) : Type 0 where
  pub inner : List ℕ
  pub bases : PutsInBases (signed_digits_value 10 text) (text ++ codes "</td><td>#x") (codes "</td><td>#b") (old ++ codes "<td>") inner
  pub closed : new ≡ inner ++ codes "</td>"

-- a line, so far indented, of the binary digits in which two numbers differ
pub record PutsDifference (indent one other : ℕ) (old new : List ℕ) : Type 0 where
  pub inner : List ℕ
  pub bits : PutsNumber 2 (bit_xor one other) (old ++ replicate indent 32 ++ codes "the bits that differ: #b") inner
  pub closed : new ≡ inner ++ codes "\n"

-- nothing, or such a line of two integers
abbrev pub MayPutDifference : ℕ → List ℕ → List ℕ → List ℕ → List ℕ → Type 0
MayPutDifference indent one other old new = (new ≡ old)
    ⊎ (IsInteger one × IsInteger other × PutsDifference indent (unsigned_abs (signed_digits_value 10 one)) (unsigned_abs (signed_digits_value 10 other)) old new)
