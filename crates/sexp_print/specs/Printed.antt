-- The bytes that print an object.
use Rattle.std.specs.Prelude.{◌≡◌, ℕ, zero, ◌==◌, if◌then◌else◌, nat_lt, ◌&&◌, ◌||◌, List, [], ◌∷◌, ◌++◌, get_or, codes, length, take}
use Rattle.std.specs.Fmt.{decimal, signed_decimal}
use Rattle.gl_logic.specs.Object.{Object, Int, Character, Symbol, Text, Cons}

-- the bytes of a text by its number in the table
abbrev pub name_of : List (List ℕ) → ℕ → List ℕ
name_of names t = get_or names t []

-- a backslash before each double quote and each backslash
abbrev pub escaped : List ℕ → List ℕ
escaped [] = []
escaped (b ∷ bs) = if (b == 34) || (b == 92) then 92 ∷ (b ∷ escaped bs) else b ∷ escaped bs

-- blank, tab, newline, page, return and rubout have names, a code from 33 to 126 is its byte, any other is a call
abbrev pub character_printed : ℕ → List ℕ
character_printed code =
    if code == 32 then codes "#\\Space" else
    (if code == 9 then codes "#\\Tab" else
    (if code == 10 then codes "#\\Newline" else
    (if code == 12 then codes "#\\Page" else
    (if code == 13 then codes "#\\Return" else
    (if code == 127 then codes "#\\Rubout" else
    (if nat_lt 32 code && nat_lt code 127 then codes "#\\" ++ code ∷ [] else
    codes "(CODE-CHAR " ++ decimal code ++ 41 ∷ []))))))

-- an object that is no cons
abbrev pub atom_printed : List (List ℕ) → Object → List ℕ
atom_printed names (Int z) = signed_decimal z
atom_printed names (Character code) = character_printed code
atom_printed names (Symbol t) = name_of names t
atom_printed names (Text t) = 34 ∷ escaped (name_of names t) ++ 34 ∷ []
atom_printed names (Cons a d) = []

-- a list stands in parentheses with single blanks, and with a dot before a last tail that is not NIL
abbrev mutual
  pub printed : List (List ℕ) → Object → List ℕ
  printed names (Cons a d) = 40 ∷ (printed names a ++ (rest_printed names d ++ 41 ∷ []))
  printed names x = atom_printed names x

  pub rest_printed : List (List ℕ) → Object → List ℕ
  rest_printed names (Cons a d) = 32 ∷ (printed names a ++ rest_printed names d)
  rest_printed names (Symbol zero) = []
  rest_printed names x = codes " . " ++ atom_printed names x

-- what stands between the parentheses
abbrev pub inside_printed : List (List ℕ) → Object → List ℕ
inside_printed names (Cons a d) = printed names a ++ rest_printed names d
inside_printed names x = []

-- the new bytes begin with the old ones
abbrev pub BeginsWith : List ℕ → List ℕ → Type 0
BeginsWith old new = take (length old) new ≡ old
