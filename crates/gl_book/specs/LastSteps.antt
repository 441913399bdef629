-- The way to the last theorem of a book.
use Rattle.std.specs.Prelude.{◌≡◌, ◌⊎◌, ℕ, true, false, List, ◌∷◌, ◌++◌, [], length, map, Option, Some, None, Ok}
use Rattle.std.specs.List.{list_any}
use Rattle.gl_logic.specs.Object.{Object}
use Rattle.gl_logic.specs.Extents.{world_cut}
use Rattle.gl_logic.specs.WorldSeen.{WorldSeen, IsWorld}
use Rattle.gl_logic.specs.declared.world.Extent.{Extent}
use Rattle.sexp_reader.specs.declared.list.Form.{Form}
use Rattle.book_shelf.specs.declared.finish.Finish.{Finish}
use Rattle.book_shelf.specs.declared.item.Item.{Item}
use Rattle.book_shelf.specs.declared.item.Item.TheVariants as item
use Rattle.event_world.specs.EventSeen.{EventSeen, Theorem}
use Rattle.event_world.specs.NextState.{BookState}
use Rattle.event_world.specs.Seen.{theorem_seen}
use Rattle.gl_decide.specs.Bounds.{Bounds}
use Rattle.gl_book.specs.Answers.{IsProperAnswer}
use Rattle.book_state.specs.Answerable.{IsReadyTheorem}
use Rattle.gl_book.specs.Entry.{Entry, Answered, Refused}
use Rattle.gl_book.specs.Lasts.{is_refused, is_theorem, is_theorem_event, state_behind}
use Rattle.gl_book.specs.Walk.{Walk, refused_cause, state_after}
use Rattle.book_state.specs.States.{event_in}
use Rattle.gl_book.specs.declared.answer.Answer.{Answer}
use Rattle.gl_book.specs.declared.last_step.Kept.{Kept}
use Rattle.gl_book.specs.declared.last_step.Step.{Step}
use Rattle.gl_book.specs.declared.last_step.Step.TheVariants as step
use Rattle.gl_book.specs.declared.refusal.Refusal.{Refusal}

-- how many of each a world has
pub record IsExtentOf (w : WorldSeen) (x : Extent) : Type 0 where
  pub definitions : x.definitions ≡ length w.definitions
  pub cliques : x.cliques ≡ length w.cliques
  pub constants : x.constants ≡ length w.constants
  pub events : x.events ≡ length w.events

-- a theorem with the extent of the world at its place
pub record IsKeptAt (w : WorldSeen) (k : Kept) : Type 0 where
  pub extent : IsExtentOf w k.extent
  pub ready : IsReadyTheorem w.definitions (theorem_seen k.thm)

-- ---- one form
-- it means an event, which is taken in with an answer
pub record Takes (names : List (List ℕ)) (bounds : Bounds) (form : Object) (old : BookState) (e : EventSeen) (a : Answer) (new : BookState) : Type 0 where
  pub meant : event_in names old form ≡ Ok e
  pub proper : IsProperAnswer bounds old.world old.memoized e a
  pub valued : refused_cause e a ≡ None
  pub state : new ≡ state_after old form e a

-- which event it is
abbrev pub IsStepOf : WorldSeen → EventSeen → Step → Type 0
IsStepOf w e step.Refused = ⊥
IsStepOf w e (step.Theorem k) = (e ≡ Theorem (theorem_seen k.thm)) × IsKeptAt w k
IsStepOf w e step.Other = is_theorem_event e ≡ false

-- it is refused, whatever comes behind it
abbrev pub IsRefusedForm : List (List ℕ) → Bounds → Form → BookState → Type 0
IsRefusedForm names bounds form s = (r : Refusal) × ((items : List Item) (end : Finish) → Walk names bounds s (item.Form form ∷ items) end (Refused r ∷ []))

abbrev pub IsTaken : List (List ℕ) → Bounds → Form → BookState → BookState → Step → Type 0
IsTaken names bounds form old new s = (e : EventSeen) × (a : Answer) × Takes names bounds form.tree old e a new × IsStepOf old.world e s

abbrev pub StepsTo : List (List ℕ) → Bounds → Form → BookState → BookState → Step → Type 0
StepsTo names bounds form old new step.Refused = IsRefusedForm names bounds form old
StepsTo names bounds form old new s = IsTaken names bounds form old new s

-- ---- all forms
-- the last theorem among entries, and the world at its place, to which the world behind them can be cut back
pub record IsKeptIn (first : BookState) (forms : List Form) (entries : List Entry) (now : WorldSeen) (k : Kept) : Type 0 where
  pub before : List Entry
  pub answer : Answer
  pub behind : List Entry
  pub world : WorldSeen
  pub are : entries ≡ before ++ Answered (Theorem (theorem_seen k.thm)) answer ∷ behind
  pub last : list_any is_theorem behind ≡ false
  pub at : (state_behind first forms before).world ≡ world
  pub cut : world_cut k.extent now ≡ world
  pub total : IsWorld world.definitions world.cliques
  pub ready : IsReadyTheorem world.definitions (theorem_seen k.thm)

-- what comes of forms: no last theorem, or one that is kept
abbrev pub IsWalkedTo : List (List ℕ) → Bounds → BookState → List Form → Finish → WorldSeen → Option Kept → Type 0
IsWalkedTo names bounds first forms end now None = (entries : List Entry) × Walk names bounds first (map item.Form forms) end entries × ((is_refused entries ≡ true) ⊎ (list_any is_theorem entries ≡ false))
IsWalkedTo names bounds first forms end now (Some k) = (entries : List Entry) × Walk names bounds first (map item.Form forms) end entries × (is_refused entries ≡ false) × IsKeptIn first forms entries now k
