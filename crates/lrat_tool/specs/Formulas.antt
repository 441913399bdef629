-- Formulas as DIMACS writes them.
use Rattle.std.specs.Prelude.{ℕ, ℤ, pos, nat_lt, Bool, false, not, ◌&&◌, ◌+◌, ◌==◌, if◌then◌else◌, List, [], ◌∷◌, ◌++◌, map, codes, bytes_eq, Option, Some, None, is_some, Result, Ok, Err}
use Rattle.std.specs.List.{count_by}
use Rattle.lrat_tool.specs.Words.{lines_of, with_first, words_in}
use Rattle.lrat_tool.specs.Numbers.{integer_within, is_zero, natural_within}

-- a word that counts, and the number of its line, from 1
pub record Token : Type 0 where
  pub line : ℕ
  pub word : List ℕ

abbrev pub tokens_from : ℕ → List (List ℕ) → List Token
tokens_from n [] = []
tokens_from n (l ∷ ls) = map (λ w. record { line = n; word = w }) (words_in l) ++ tokens_from (n + 1) ls

abbrev pub tokens_of : List ℕ → List Token
tokens_of text = tokens_from 1 (lines_of text)

-- the number of a token that is one, and else 0
abbrev pub or_zero : Option ℕ → ℕ
or_zero None = 0
or_zero (Some n) = n

abbrev pub most_variables : ℕ
most_variables = 10000000

abbrev pub most_clauses : ℕ
most_clauses = 100000000

abbrev pub variables_said : Token → ℕ
variables_said t = or_zero (natural_within most_variables t.word)

abbrev pub clauses_said : Token → ℕ
clauses_said t = or_zero (natural_within most_clauses t.word)

-- how many of the tokens are 0
abbrev pub zeros : List Token → ℕ
zeros ts = count_by (λ t. bytes_eq t.word (codes "0")) ts

-- whether a token may stand behind these: p, cnf, the number of variables and that of clauses stand on one line, and what
-- follows on later ones: literals of these variables, and a 0 for each clause
abbrev pub may_follow : List Token → Token → Bool
may_follow [] t = bytes_eq t.word (codes "p")
may_follow (p ∷ []) t = t.line == p.line && bytes_eq t.word (codes "cnf")
may_follow (p ∷ f ∷ []) t = t.line == p.line && is_some (natural_within most_variables t.word)
may_follow (p ∷ f ∷ v ∷ []) t = t.line == p.line && is_some (natural_within most_clauses t.word)
may_follow (p ∷ f ∷ v ∷ c ∷ before) t = not (t.line == p.line) && (nat_lt (zeros before) (clauses_said c) && is_some (integer_within (variables_said v) t.word))

-- the line of the first token that may not stand behind those before it
abbrev pub first_misplaced : List Token → List Token → Option ℕ
first_misplaced before [] = None
first_misplaced before (t ∷ ts) = if may_follow before t then first_misplaced (before ++ t ∷ []) ts else Some t.line

-- whether there are as many clauses as the header says
abbrev pub is_whole : List Token → Bool
is_whole (p ∷ f ∷ v ∷ c ∷ rest) = zeros rest == clauses_said c
is_whole _ = false

abbrev pub integer_or_zero : Option ℤ → ℤ
integer_or_zero None = pos 0
integer_or_zero (Some z) = z

-- each clause ends with a 0
abbrev pub split_clauses : List ℤ → List (List ℤ)
split_clauses [] = []
split_clauses (z ∷ zs) = if is_zero z then [] ∷ split_clauses zs else with_first z (split_clauses zs)

abbrev pub literal_said : Token → ℤ
literal_said t = integer_or_zero (integer_within most_variables t.word)

abbrev pub clauses_behind : List Token → List (List ℤ)
clauses_behind (p ∷ f ∷ v ∷ c ∷ rest) = split_clauses (map literal_said rest)
clauses_behind _ = []

-- the line behind the last byte 10
abbrev pub last_line : List ℕ → ℕ
last_line text = count_by (λ b. b == 10) text + 1

abbrev pub by_misplaced : Option ℕ → Result (List (List ℤ)) ℕ → Result (List (List ℤ)) ℕ
by_misplaced None whole = whole
by_misplaced (Some n) whole = Err n

-- the clauses of a text, or the line of the first token that may not stand there, or where the text ends early
abbrev pub formula_meant : List ℕ → Result (List (List ℤ)) ℕ
formula_meant text = by_misplaced (first_misplaced [] (tokens_of text)) (if is_whole (tokens_of text) then Ok (clauses_behind (tokens_of text)) else Err (last_line text))
