-- Entries of a log as they are held: hints are the numbers of the clauses that they name.
use Rattle.std.specs.Prelude.{◌≡◌, ◌<◌, ◌+◌, ◌==◌, ℕ, ℤ, nat_le, Bool, true, false, if◌then◌else◌, List, [], ◌∷◌, ◌++◌, get_or, map, Option, Some, None, option_map, option_and_then}
use Rattle.std.specs.List.{All, list_any}
use Rattle.lrat_tool.specs.Flat.{FlatSeen}
use Rattle.lrat_tool.specs.HintWords.{held_of}
use Rattle.lrat_tool.specs.Judgements.{is_below_zero}
use Rattle.lrat_tool.specs.Logs.{LineMeant, Nothing, Clause, Bad, LogEntry, entry_behind, is_zero_word, most_literal, or_bad, words_meant}
use Rattle.lrat_tool.specs.Numbers.{integer_said, integer_within}
use Rattle.lrat_tool.specs.Places.{rest_of}
use Rattle.lrat_tool.specs.declared.judgement.Judgement.{Judgement}
use Rattle.lrat_tool.specs.declared.judgement.Judgement.TheVariants.{Rat, NotShown}
use Rattle.lrat_tool.specs.declared.lines.Line.{Line}
use Rattle.lrat_tool.specs.declared.log.Log.{Log}

-- ---- numbers of entries
-- each is greater than the one before it
abbrev pub Rises : ℕ → List ℕ → Type 0
Rises last [] = Unit {0}
Rises last (id ∷ ids) = (last < id) × Rises id ids

abbrev pub last_id : ℕ → List ℕ → ℕ
last_id last [] = last
last_id last (id ∷ ids) = last_id id ids

-- the place from this one on, of the entry with a number; 0 where there is none
abbrev pub id_place : ℕ → List ℕ → ℕ → ℕ
id_place place [] h = 0
id_place place (id ∷ ids) h = if id == h then place else id_place (place + 1) ids h

-- the place of the clause of a number, behind so many first clauses and entries of these numbers; 0 where there is none
abbrev pub place_by : ℕ → List ℕ → ℕ → ℕ
place_by first ids n = if nat_le n first then n else id_place (first + 1) ids n

-- the entries are held
pub record IsHeld (first : ℕ) (es : List LogEntry) (log : Log) : Type 0 where
  pub clauses : log.clauses ≡ record { lists = map (λ e. e.clause) es; rest = [] }
  pub hints : log.hints ≡ record { lists = map (λ e. map held_of e.hints) es; rest = [] }
  pub ids : log.ids.items ≡ map (λ e. e.id) es
  pub lines : log.lines.items ≡ map (λ e. e.line) es
  pub rats : log.rats.items ≡ map (λ e. list_any is_below_zero e.hints) es
  pub rises : Rises first log.ids.items
  pub small : All (λ id. id < 4294967296) log.ids.items

-- ---- words
-- what each word before the first 0 says, where each says something, and the words behind it
abbrev pub said_to_zero : (List ℕ → Option ℤ) → List (List ℕ) → Option (List ℤ × List (List ℕ))
said_to_zero said [] = None
said_to_zero said (w ∷ ws) = if is_zero_word w then Some ([], ws) else option_and_then (λ z. option_map (λ p. (z ∷ p.0, p.1)) (said_to_zero said ws)) (said w)

-- literals were read up to a 0, or there are none up to one
abbrev pub LiteralsRead : FlatSeen ℤ → FlatSeen ℤ → List (List ℕ) → List (List ℕ) → Bool → Type 0
LiteralsRead old new ws left true = (zs : List ℤ) × (said_to_zero (integer_within most_literal) ws ≡ Some (zs, left)) × (new ≡ record { lists = old.lists; rest = old.rest ++ zs })
LiteralsRead old new ws left false = said_to_zero (integer_within most_literal) ws ≡ None

-- hints likewise; whether one of them is below 0
abbrev pub HintsRead : FlatSeen ℕ → FlatSeen ℕ → List (List ℕ) → List (List ℕ) → Option Bool → Type 0
HintsRead old new ws left (Some below) = (zs : List ℤ) × (said_to_zero integer_said ws ≡ Some (zs, left))
    × (new ≡ record { lists = old.lists; rest = old.rest ++ map held_of zs }) × (below ≡ list_any is_below_zero zs)
HintsRead old new ws left None = said_to_zero integer_said ws ≡ None

-- what a line leaves of a log that holds these entries: it is well-formed, and its entry is held, or it is not
abbrev pub LineRead : ℕ → List LogEntry → Log → LineMeant → Bool → Type 0
LineRead first es new Nothing fine = (fine ≡ true) × IsHeld first es new
LineRead first es new (Clause e) fine = (fine ≡ true) × IsHeld first (es ++ e ∷ []) new
LineRead first es new Bad fine = fine ≡ false

-- an entry has ended
pub record HasEntry (old : Log) (id line : ℕ) (below : Bool) (new : Log) : Type 0 where
  pub clauses : new.clauses ≡ record { lists = old.clauses.lists ++ old.clauses.rest ∷ []; rest = [] }
  pub hints : new.hints ≡ record { lists = old.hints.lists ++ old.hints.rest ∷ []; rest = [] }
  pub ids : new.ids.items ≡ old.ids.items ++ id ∷ []
  pub lines : new.lines.items ≡ old.lines.items ++ line ∷ []
  pub rats : new.rats.items ≡ old.rats.items ++ below ∷ []

-- what the rest of a line says behind an id
abbrev pub entry_line : List ℕ → Line → ℕ → LineMeant
entry_line text line id = or_bad (entry_behind line.number id (rest_of text line))

-- what a line says behind an entry of the number `last`
abbrev pub line_meant : List ℕ → Line → ℕ → LineMeant
line_meant text line last = words_meant last line.number (rest_of text line)

-- the fault of an entry that has one
abbrev pub fault_at : Log → ℕ → Judgement
fault_at log k = if get_or log.rats.items k false then Rat (get_or log.lines.items k 0) else NotShown (get_or log.lines.items k 0)
