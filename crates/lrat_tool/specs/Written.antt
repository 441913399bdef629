-- Refutations as texts: the first clauses of a book as DIMACS writes them, and its log as LRAT does.
use Rattle.std.specs.Prelude.{ℕ, ℤ, ◌+◌, if◌then◌else◌, max, List, [], ◌∷◌, ◌++◌, map, length, codes}
use Rattle.std.specs.Fmt.{decimal, signed_decimal}
use Rattle.std.specs.Int.RustNames.{unsigned_abs}
use Rattle.std.specs.List.{flat_map, join_with_byte, list_any, position_or_len}
use Rattle.cnf_rup.specs.declared.clause.Entry.{Entry}
use Rattle.cnf_rup.specs.Books.{BookSeen, first_clauses, log_of, is_empty}

-- words with a blank between each two, and a byte 10 behind them
abbrev pub line_of : List (List ℕ) → List ℕ
line_of words = join_with_byte 32 words ++ 10 ∷ []

-- lines of words
abbrev pub text_of : List (List (List ℕ)) → List ℕ
text_of lines = flat_map line_of lines

-- numbers, and a 0 behind them
abbrev pub clause_words : List ℤ → List (List ℕ)
clause_words c = map signed_decimal c ++ codes "0" ∷ []

abbrev pub hint_words : List ℕ → List (List ℕ)
hint_words hints = map decimal hints ++ codes "0" ∷ []

-- ---- the formula
-- the greatest size of literals
abbrev pub greatest_of : List ℤ → ℕ
greatest_of [] = 0
greatest_of (l ∷ ls) = max (unsigned_abs l) (greatest_of ls)

abbrev pub greatest_variable : List (List ℤ) → ℕ
greatest_variable clauses = greatest_of (flat_map (λ c. c) clauses)

abbrev pub header_words : ℕ → ℕ → List (List ℕ)
header_words variables clauses = codes "p" ∷ codes "cnf" ∷ decimal variables ∷ decimal clauses ∷ []

-- a header with the greatest variable and the number of clauses, and a line for each of the first clauses
abbrev pub cnf_lines : BookSeen → List ℕ
cnf_lines b = text_of (header_words (greatest_variable (first_clauses b)) (length (first_clauses b)) ∷ map clause_words (first_clauses b))

-- ---- the log
abbrev pub entry_words : ℕ → Entry → List (List ℕ)
entry_words id e = decimal id ∷ (clause_words e.clause ++ hint_words e.hints)

-- the lines of entries, the first of which has this number
abbrev pub entries_words : ℕ → List Entry → List (List (List ℕ))
entries_words id [] = []
entries_words id (e ∷ es) = entry_words id e ∷ entries_words (id + 1) es

-- the empty clause, by a clause of this number that is empty
abbrev pub empty_entry : ℕ → Entry
empty_entry hint = record { clause = []; hints = hint ∷ [] }

-- the number of the first of these clauses that is empty
abbrev pub empty_number : List (List ℤ) → ℕ
empty_number clauses = position_or_len is_empty clauses + 1

-- the entries that are written: those of the log, or where a first clause is empty the one that names it
abbrev pub written_entries : BookSeen → List Entry
written_entries b = if list_any is_empty (first_clauses b) then empty_entry (empty_number (first_clauses b)) ∷ [] else log_of b

-- a line for each entry. The entries are numbered behind the first clauses
abbrev pub log_lines : BookSeen → List ℕ
log_lines b = text_of (entries_words (b.first + 1) (written_entries b))
