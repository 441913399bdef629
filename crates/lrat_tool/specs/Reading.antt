-- What is left to be read of a text.
use Rattle.std.specs.Prelude.{◌≡◌, ℕ, ℤ, Bool, true, false, not, ◌&&◌, ◌==◌, nat_lt, bytes_eq, is_some, Option, Some, None, ◌+◌, if◌then◌else◌, List, [], ◌∷◌, ◌++◌, map, Result, Ok, Err}
use Rattle.lrat_tool.specs.declared.lines.Line.{Line}
use Rattle.lrat_tool.specs.declared.lines.Span.{Span}
use Rattle.lrat_tool.specs.declared.formula.Header.{Header}
use Rattle.lrat_tool.specs.Flat.{FlatSeen}
use Rattle.lrat_tool.specs.Numbers.{integer_within, is_zero, natural_within}
use Rattle.lrat_tool.specs.Places.{word_of}
use Rattle.lrat_tool.specs.Words.{lines_behind, words_left}
use Rattle.lrat_tool.specs.Formulas.{Token, by_misplaced, clauses_behind, clauses_said, first_misplaced, is_whole, last_line, tokens_from, variables_said}

-- the words that are left of a line, and those of the lines behind it
abbrev pub tokens_left : List ℕ → Line → List Token
tokens_left text l = map (λ w. record { line = l.number; word = w }) (words_left text l.begin l.end) ++ tokens_from (l.number + 1) (lines_behind text l.end)

-- the formula of tokens, or the line of the first that may not stand there, or this last line where they end early
abbrev pub formula_by : ℕ → List Token → Result (List (List ℤ)) ℕ
formula_by last ts = by_misplaced (first_misplaced [] ts) (if is_whole ts then Ok (clauses_behind ts) else Err last)

-- there is no token, which is said of the last line, or one that does not fit, which is said of its own
abbrev pub StopsAt : ℕ → List Token → (Token → Bool) → ℕ → Type 0
StopsAt last [] fits n = n ≡ last
StopsAt last (t ∷ ts) fits n = (fits t ≡ false) × (n ≡ t.line)

-- the tokens begin with a header, and these stand behind it
pub record HasHeader (all rest : List Token) (h : Header) : Type 0 where
  pub p : Token
  pub f : Token
  pub v : Token
  pub c : Token
  pub split : all ≡ p ∷ f ∷ v ∷ c ∷ rest
  pub reached : first_misplaced [] all ≡ first_misplaced (p ∷ f ∷ v ∷ c ∷ []) rest
  pub line : p.line ≡ h.line
  pub variables : variables_said v ≡ h.variables
  pub clauses : clauses_said c ≡ h.clauses

-- the literal of a token behind the header and so many clauses, where it may stand there
abbrev pub literal_here : Header → ℕ → Token → Option ℤ
literal_here h ended t = if not (t.line == h.line) && nat_lt ended h.clauses then integer_within h.variables t.word else None

-- a literal more; 0 ends the clause
abbrev pub flat_with : FlatSeen ℤ → ℤ → FlatSeen ℤ
flat_with seen z = if is_zero z then record { lists = seen.lists ++ seen.rest ∷ []; rest = [] } else record { lists = seen.lists; rest = seen.rest ++ z ∷ [] }

-- the first of the tokens is this word on this line, and these stand behind it
abbrev pub spells : ℕ → List ℕ → Token → Bool
spells line word t = t.line == line && bytes_eq t.word word

abbrev pub WordRead : List Token → List Token → ℕ → List ℕ → Type 0
WordRead all rest line word = (t : Token) × (all ≡ t ∷ rest) × (spells line word t ≡ true)

-- the same of a number that is at most so great
abbrev pub is_number : ℕ → ℕ → Token → Bool
is_number line most t = t.line == line && is_some (natural_within most t.word)

abbrev pub NumberRead : List Token → List Token → ℕ → ℕ → ℕ → Type 0
NumberRead all rest line most n = (t : Token) × (all ≡ t ∷ rest) × ((t.line == line) ≡ true) × (natural_within most t.word ≡ Some n)

abbrev pub token_at : List ℕ → Line → Span → Token
token_at text at s = record { line = at.number; word = word_of text s }

-- the formula of a text's tokens
abbrev pub formula_in : List ℕ → List Token → Result (List (List ℤ)) ℕ
formula_in text ts = formula_by (last_line text) ts
