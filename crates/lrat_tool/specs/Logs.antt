-- Logs of clauses with hints, as LRAT writes them.
use Rattle.std.specs.Prelude.{ℕ, ℤ, nat_lt, Bool, false, not, ◌&&◌, ◌+◌, if◌then◌else◌, List, [], ◌∷◌, codes, bytes_eq, Option, Some, None, is_some, option_map, option_and_then, Result, Ok, Err}
use Rattle.lrat_tool.specs.Words.{lines_of, words_in}
use Rattle.lrat_tool.specs.Numbers.{integer_said, integer_within, natural_within}

-- a clause of a log: its line, its number, its literals, and its hints. A hint below 0 is one of another kind of step
pub record LogEntry : Type 0 where
  pub line : ℕ
  pub id : ℕ
  pub clause : List ℤ
  pub hints : List ℤ

abbrev pub most_id : ℕ
most_id = 4294967295

abbrev pub most_literal : ℕ
most_literal = 2147483647

abbrev pub is_zero_word : List ℕ → Bool
is_zero_word w = bytes_eq w (codes "0")

-- ---- deletions
-- numbers other than 0, and a 0 behind them
abbrev pub are_ids : List (List ℕ) → Bool
are_ids [] = false
are_ids (w ∷ []) = is_zero_word w
are_ids (w ∷ ws) = (is_some (natural_within most_id w) && not (is_zero_word w)) && are_ids ws

-- ---- clauses
-- the words before the first 0, and those behind it
abbrev pub split_at_zero : List (List ℕ) → Option (List (List ℕ) × List (List ℕ))
split_at_zero [] = None
split_at_zero (w ∷ ws) = if is_zero_word w then Some ([], ws) else option_map (λ p. (w ∷ p.0, p.1)) (split_at_zero ws)

-- the words before the one 0, which is the last
abbrev pub with_none_behind : List (List ℕ) × List (List ℕ) → Option (List (List ℕ))
with_none_behind (ws, []) = Some ws
with_none_behind (ws, _) = None

abbrev pub ended_by_zero : List (List ℕ) → Option (List (List ℕ))
ended_by_zero ws = option_and_then with_none_behind (split_at_zero ws)

-- what each word says, where each says something
abbrev pub all_said : (List ℕ → Option ℤ) → List (List ℕ) → Option (List ℤ)
all_said said [] = Some []
all_said said (w ∷ ws) = option_and_then (λ z. option_map (λ zs. z ∷ zs) (all_said said ws)) (said w)

-- literals within their bound, and integers of any size as hints
abbrev pub entry_with : ℕ → ℕ → List (List ℕ) → List (List ℕ) → Option LogEntry
entry_with line id literals hints = option_and_then (λ c. option_map (λ hs. record { line = line; id = id; clause = c; hints = hs }) (all_said integer_said hints)) (all_said (integer_within most_literal) literals)

abbrev pub entry_behind : ℕ → ℕ → List (List ℕ) → Option LogEntry
entry_behind line id words = option_and_then (λ p. option_and_then (entry_with line id p.0) (ended_by_zero p.1)) (split_at_zero words)

-- the number of an entry is greater than the last one's
abbrev pub after : ℕ → ℕ → Option ℕ
after last id = if nat_lt last id then Some id else None

abbrev pub entry_meant : ℕ → ℕ → List ℕ → List (List ℕ) → Option LogEntry
entry_meant last line w ws = option_and_then (λ id. entry_behind line id ws) (option_and_then (after last) (natural_within most_id w))

-- ---- lines
-- what a line says
pub data LineMeant : Type 0 where
  -- nothing: a comment, a line without a word, or a deletion
  Nothing : LineMeant
  Clause : LogEntry → LineMeant
  -- it has neither form
  Bad : LineMeant

abbrev pub or_bad : Option LogEntry → LineMeant
or_bad None = Bad
or_bad (Some e) = Clause e

abbrev pub words_meant : ℕ → ℕ → List (List ℕ) → LineMeant
words_meant last line [] = Nothing
words_meant last line (w ∷ []) = Bad
words_meant last line (w ∷ v ∷ ws) =
    if bytes_eq v (codes "d") then (if is_some (natural_within most_id w) && are_ids ws then Nothing else Bad)
    else or_bad (entry_meant last line w (v ∷ ws))

abbrev pub with_entry : LogEntry → Result (List LogEntry) ℕ → Result (List LogEntry) ℕ
with_entry e (Ok es) = Ok (e ∷ es)
with_entry e (Err n) = Err n

abbrev pub by_line : LineMeant → ℕ → (ℕ → Result (List LogEntry) ℕ) → ℕ → Result (List LogEntry) ℕ
by_line Nothing line rest last = rest last
by_line (Clause e) line rest last = with_entry e (rest e.id)
by_line Bad line rest last = Err line

-- the entries of lines, the first of which has this number, behind an entry of the number `last`; or the first line that has
-- neither form
abbrev pub entries_from : ℕ → List (List ℕ) → ℕ → Result (List LogEntry) ℕ
entries_from line [] last = Ok []
entries_from line (l ∷ ls) last = by_line (words_meant last line (words_in l)) line (entries_from (line + 1) ls) last

-- the entries of a log behind so many first clauses, or the first line that has neither form
abbrev pub log_meant : ℕ → List ℕ → Result (List LogEntry) ℕ
log_meant first text = entries_from 1 (lines_of text) first
