-- The last theorem of a book.
use Rattle.std.specs.Prelude.{◌≡◌, ◌⊎◌, ℕ, ◌≤◌, Bool, true, false, List, ◌∷◌, ◌++◌, length, map}
use Rattle.std.specs.List.{list_any}
use Rattle.gl_logic.specs.WorldSeen.{WorldSeen}
use Rattle.sexp_reader.specs.declared.list.Form.{Form}
use Rattle.sexp_reader.specs.declared.ends.End.{End}
use Rattle.book_shelf.specs.declared.item.Item.TheVariants as item
use Rattle.book_shelf.specs.Listed.{finish_of}
use Rattle.book_shelf.specs.Flat.{most_bytes}
use Rattle.event_world.specs.EventSeen.{TheoremSeen, EventSeen, Theorem}
use Rattle.event_world.specs.NextState.{BookState}
use Rattle.gl_decide.specs.Bounds.{Bounds}
use Rattle.gl_book.specs.Entry.{Entry, Answered}
use Rattle.gl_book.specs.Lines.{is_refusal}
use Rattle.gl_book.specs.Transcript.{ComesOf}
use Rattle.book_state.specs.Reading.{IsReadBy}
use Rattle.gl_book.specs.Walk.{Walk, state_after}
use Rattle.book_state.specs.States.{IsFirstState}
use Rattle.gl_book.specs.declared.answer.Answer.{Answer}

-- ---- entries
abbrev pub is_refused : List Entry → Bool
is_refused entries = list_any is_refusal entries

-- a theorem that is not redundant. One by cases is another event
abbrev pub is_theorem_event : EventSeen → Bool
is_theorem_event (Theorem thm) = true
is_theorem_event _ = false

abbrev pub is_theorem : Entry → Bool
is_theorem (Answered e a) = is_theorem_event e
is_theorem _ = false

-- the state behind an entry of a form, which only an event changes
abbrev pub state_by : BookState → Form → Entry → BookState
state_by s form (Answered e a) = state_after s form.tree e a
state_by s form _ = s

-- the state behind the first forms, by what came of them
abbrev pub state_behind : BookState → List Form → List Entry → BookState
state_behind s (form ∷ forms) (entry ∷ entries) = state_behind (state_by s form entry) forms entries
state_behind s _ _ = s

-- ---- books
-- a book that is refused, or has no theorem
pub record HasNone (names : List (List ℕ)) (bounds : Bounds) (bytes : List ℕ) : Type 0 where
  pub entries : List Entry
  pub comes : ComesOf names bounds bytes entries
  pub none : (is_refused entries ≡ true) ⊎ (list_any is_theorem entries ≡ false)

-- the last theorem of a book that is not refused, and the world at its place
pub record IsLastOf (names : List (List ℕ)) (bounds : Bounds) (bytes : List ℕ) (w : WorldSeen) (thm : TheoremSeen) : Type 0 where
  pub forms : List Form
  pub end : End
  pub first : BookState
  -- what comes of the forms: entries, the theorem, and entries
  pub before : List Entry
  pub answer : Answer
  pub behind : List Entry
  pub few : length bytes ≤ most_bytes
  pub read : IsReadBy names bytes forms end
  pub begins : IsFirstState names first
  pub walk : Walk names bounds first (map item.Form forms) (finish_of end) (before ++ Answered (Theorem thm) answer ∷ behind)
  pub whole : is_refused (before ++ Answered (Theorem thm) answer ∷ behind) ≡ false
  pub last : list_any is_theorem behind ≡ false
  pub world : (state_behind first forms before).world ≡ w
