-- The lines of a text, and the words of a line.
use Rattle.std.specs.Prelude.{ℕ, Bool, true, false, ◌||◌, ◌+◌, ◌==◌, nat_lt, if◌then◌else◌, List, [], ◌∷◌, length, take, drop}

-- blanks: tabs, carriage returns, spaces, and what ends a line
abbrev pub is_blank : ℕ → Bool
is_blank b = b == 32 || (b == 9 || (b == 13 || b == 10))

abbrev pub begins_blank : List ℕ → Bool
begins_blank [] = true
begins_blank (b ∷ bs) = is_blank b

module _ {X : Type 0} where
  -- one more at the front of the first list
  abbrev pub with_first : X → List (List X) → List (List X)
  with_first x [] = (x ∷ []) ∷ []
  with_first x (l ∷ ls) = (x ∷ l) ∷ ls

-- byte 10 ends a line, so there is one line more than there are such bytes
abbrev pub lines_of : List ℕ → List (List ℕ)
lines_of [] = [] ∷ []
lines_of (b ∷ bs) = if b == 10 then [] ∷ lines_of bs else with_first b (lines_of bs)

-- the longest runs of bytes that are not blank
abbrev pub words_of : List ℕ → List (List ℕ)
words_of [] = []
words_of (b ∷ bs) = if is_blank b then words_of bs else (if begins_blank bs then (b ∷ []) ∷ words_of bs else with_first b (words_of bs))

-- a line whose first byte is c is a comment
abbrev pub is_comment : List ℕ → Bool
is_comment [] = false
is_comment (b ∷ bs) = b == 99

-- the words that count
abbrev pub words_in : List ℕ → List (List ℕ)
words_in line = if is_comment line then [] else words_of line

-- the lines behind one that ends here
abbrev pub lines_behind : List ℕ → ℕ → List (List ℕ)
lines_behind text end = if nat_lt end (length text) then lines_of (drop (end + 1) text) else []

-- the words from a place on, of a line that ends here
abbrev pub words_left : List ℕ → ℕ → ℕ → List (List ℕ)
words_left text at end = words_of (drop at (take end text))
