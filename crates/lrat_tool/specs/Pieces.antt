-- The first entry of some that is wrong.
use Rattle.std.specs.Prelude.{◌≡◌, ◌≤◌, ◌<◌, ◌^◌, ℕ, length, All, ℤ, Bool, true, false, not, ◌&&◌, List, [], ◌∷◌, ◌++◌, map, take, get_or, slice_index_or, Option, is_none}
use Rattle.cnf_rup.specs.Marked.{AreWithin}
use Rattle.cnf_rup.specs.Shown.{first_unshown, stop, turn_at}
use Rattle.cnf_rup.specs.declared.clause_status.ClauseStatus.{ClauseStatus}
use Rattle.lrat_tool.specs.Flat.{FlatSeen}
use Rattle.lrat_tool.specs.Held.{Rises, place_by}
use Rattle.lrat_tool.specs.declared.log.Log.{Log}
use Rattle.lrat_tool.specs.declared.found.Found.{Found}
use Rattle.lrat_tool.specs.declared.found.Found.TheVariants as found
use Rattle.lrat_tool.specs.declared.piece.Piece.{Piece}

-- a formula, and behind it clauses of these numbers with the numbers of the clauses that show them, and whether one of their hints
-- is below 0
pub record LogSeen : Type 0 where
  pub formula : List (List ℤ)
  pub clauses : List (List ℤ)
  pub ids : List ℕ
  pub hints : List (List ℕ)
  pub rats : List Bool

abbrev pub log_seen : FlatSeen ℤ → Log → LogSeen
log_seen formula log = record { formula = formula.lists; clauses = log.clauses.lists; ids = log.ids.items; hints = log.hints.lists; rats = log.rats.items }

abbrev pub before : LogSeen → ℕ → List (List ℤ)
before s k = s.formula ++ take k s.clauses

-- the place of the clause that a hint names among those before a number, and what this clause is
abbrev pub place_at : LogSeen → ℕ → ℕ → ℕ
place_at s k hint = place_by (length s.formula) (take k s.ids) hint

abbrev pub turn_for : LogSeen → ℕ → List ℤ → ℕ → ClauseStatus
turn_for s k known hint = turn_at (before s k) known (place_at s k hint)

-- where hints stop, the first of which has this place among its entry's
abbrev pub stop_of : LogSeen → ℕ → List ℤ → ℕ → List ℕ → Option ℕ
stop_of s k known place hints = stop (before s k) known place (map (place_at s k) hints)

-- the first hint of a number that does not show its clause from those before it
abbrev pub unshown_at : LogSeen → ℕ → Option ℕ
unshown_at s k = first_unshown (before s k) (get_or s.clauses k []) (map (place_at s k) (get_or s.hints k []))

-- whether the hints of a number show its clause from those before it, and none of them is below 0
abbrev pub is_right_at : LogSeen → ℕ → Bool
is_right_at s k = not (get_or s.rats k false) && is_none (unshown_at s k)

abbrev pub AllRight : LogSeen → ℕ → ℕ → Type 0
AllRight s first end = (k : ℕ) → first ≤ k → k < end → is_right_at s k ≡ true

-- what is found of the numbers from the first up to but not including the end
abbrev pub IsFoundAmong : LogSeen → ℕ → ℕ → Found → Type 0
IsFoundAmong s first end found.None = AllRight s first end
IsFoundAmong s first end (found.At k) = (first ≤ k) × (k < end) × (is_right_at s k ≡ false) × AllRight s first k
IsFoundAmong s first end found.Memory = Unit {0}

-- each begins where the one before it ended
abbrev pub Follow : ℕ → List Piece → ℕ → Type 0
Follow first [] end = first ≡ end
Follow first (p ∷ ps) end = (p.first ≡ first) × Follow p.end ps end

abbrev pub IsFoundOf : LogSeen → Piece → Found → Type 0
IsFoundOf s p f = IsFoundAmong s p.first p.end f

-- the same of each of some pieces
abbrev pub EachFound : LogSeen → List Piece → List Found → Type 0
EachFound s ps fs = (i : ℕ) (p : Piece) (f : Found) → i < length ps → IsFoundOf s (slice_index_or ps i p) (slice_index_or fs i f)

-- whether the clauses of a log have rising numbers, which stand behind those of the formula
abbrev pub AreNumbered : FlatSeen ℤ → Log → Type 0
AreNumbered formula log =
    (length log.ids.items ≡ length log.clauses.lists) × Rises (length formula.lists) log.ids.items × (length formula.lists < 4294967296)

-- whether the literals have room, and each clause its number and its hints
abbrev pub AreChecked : ℕ → FlatSeen ℤ → Log → Type 0
AreChecked room formula log =
    (length log.hints.lists ≡ length log.clauses.lists) × (length log.rats.items ≡ length log.clauses.lists)
    × All (AreWithin room) formula.lists × All (AreWithin room) log.clauses.lists × (room < 2 ^ 32) × AreNumbered formula log

abbrev pub AreFound : LogSeen → List Piece → List Found → Type 0
AreFound s [] [] = Unit {0}
AreFound s (p ∷ ps) (f ∷ fs) = IsFoundOf s p f × AreFound s ps fs
AreFound s _ _ = ⊥

-- the first answer that is one
abbrev pub joined_of : List Found → Found
joined_of [] = found.None
joined_of (found.None ∷ fs) = joined_of fs
joined_of (f ∷ fs) = f
