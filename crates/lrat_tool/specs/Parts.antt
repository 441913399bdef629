-- Texts in parts of whole lines, and logs that are read by parts.
use Rattle.std.specs.Prelude.{◌≡◌, ◌≤◌, ◌<◌, ◌+◌, ◌-◌, ℕ, Bool, true, false, List, [], ◌∷◌, ◌++◌, length, map, take, drop, get_or, Result, Ok, Err}
use Rattle.std.specs.List.{All}
use Rattle.lrat_tool.specs.Held.{IsHeld}
use Rattle.lrat_tool.specs.Logs.{LogEntry, entries_from}
use Rattle.lrat_tool.specs.Words.{lines_of}
use Rattle.lrat_tool.specs.declared.bad_text.BadText.{BadText}
use Rattle.lrat_tool.specs.declared.log.Log.{Log}
use Rattle.lrat_tool.specs.declared.part_log.PartLog.{PartLog}
use Rattle.lrat_tool.specs.declared.piece.Piece.{Piece}

-- the bytes of a part, and its lines
abbrev pub part_of : List ℕ → Piece → List ℕ
part_of text p = take (p.end - p.first) (drop p.first text)

abbrev pub lines_in : List ℕ → Piece → List (List ℕ)
lines_in text p = lines_of (part_of text p)

-- the lines of parts that stand from the last to the first
abbrev pub lines_joined : List (List (List ℕ)) → List (List ℕ)
lines_joined [] = []
lines_joined (ls ∷ before) = lines_joined before ++ ls

-- the parts of a text have its lines
abbrev pub AreParts : List ℕ → List Piece → Type 0
AreParts text ps = All (λ p. p.end ≤ length text) ps × (lines_joined (map (lines_in text) ps) ≡ lines_of text)

-- the entries of lines, behind so many first clauses and as if no lines stood before, are held
abbrev pub IsLogIn : ℕ → List (List ℕ) → Log → Type 0
IsLogIn first lines log = (es : List LogEntry) × (entries_from 1 lines first ≡ Ok es) × IsHeld first es log

abbrev pub IsLogOf : ℕ → List (List ℕ) → PartLog → Type 0
IsLogOf first lines p = IsLogIn first lines p.log × (p.lines ≡ length lines)

-- the same of what was read of a part, where it was
abbrev pub IsReadOf : ℕ → List (List ℕ) → Result PartLog BadText → Type 0
IsReadOf first lines (Ok p) = IsLogOf first lines p
IsReadOf first lines (Err end) = Unit {0}

-- the same of each of some parts
abbrev pub EachRead : ℕ → List (List (List ℕ)) → List (Result PartLog BadText) → Type 0
EachRead first parts reads = (i : ℕ) (ls : List (List ℕ)) (r : Result PartLog BadText) → i < length reads → IsReadOf first (get_or parts i ls) (get_or reads i r)

-- those of these parts that are still to be taken are as they were read, and the others, which stand before them in the text, are
-- one log
abbrev pub AreJoined : ℕ → List (List (List ℕ)) → List (Result PartLog BadText) → PartLog → Type 0
AreJoined first parts reads whole = (length reads ≤ length parts) × EachRead first parts reads × IsLogOf first (lines_joined (drop (length reads) parts)) whole

-- ---- entries behind others
-- each entry has all its parts
abbrev pub AreEven : Log → Type 0
AreEven log =
    (length log.clauses.lists ≡ length log.ids.items) × (length log.hints.lists ≡ length log.ids.items)
    × (length log.lines.items ≡ length log.ids.items) × (length log.rats.items ≡ length log.ids.items)

-- an entry as it stands so many lines later
abbrev pub later : ℕ → LogEntry → LogEntry
later n e = record { line = n + e.line; id = e.id; clause = e.clause; hints = e.hints }

abbrev pub entry_at : List LogEntry → ℕ → LogEntry
entry_at es k = get_or es k (record { line = 0; id = 0; clause = []; hints = [] })

-- where all numbers rise, an entry was put behind others so many lines later, and so were some
abbrev pub IsPut : ℕ → List LogEntry → LogEntry → ℕ → Log → Bool → Type 0
IsPut first es e lines new true = IsHeld first (es ++ later lines e ∷ []) new
IsPut first es e lines new false = Unit {0}

abbrev pub ArePut : ℕ → List LogEntry → List LogEntry → ℕ → Log → Bool → Type 0
ArePut first es ds lines new true = IsHeld first (es ++ map (later lines) ds) new
ArePut first es ds lines new false = Unit {0}

-- where all numbers rise, the log of lines was put together
abbrev pub IsJoined : ℕ → List (List ℕ) → PartLog → Bool → Type 0
IsJoined first lines new true = IsLogOf first lines new
IsJoined first lines new false = Unit {0}
