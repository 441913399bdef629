-- The states of a book, its events taken in once more without deciding a theorem.
use Rattle.std.specs.Prelude.{◌≡◌, ℕ, ◌-◌, ◌≤◌, min, List, [], ◌∷◌, length, take, drop, Option, Some, None, slice_get, MatchOption, Ok, Err}
use Rattle.std.specs.Coded.{Coded, code_by, coded×, coded_ℕ}
use Rattle.gl_logic.specs.Object.{Object}
use Rattle.book_shelf.specs.declared.item.Item.{Item}
use Rattle.book_shelf.specs.declared.item.Item.TheVariants as item
use Rattle.event_world.specs.EventSeen.{EventSeen, Defconst}
use Rattle.event_world.specs.NextState.{BookState, next_state}
use Rattle.gl_decide.specs.Bounds.{Bounds}
use Rattle.book_state.specs.States.{event_in, coded_state}
use Rattle.gl_book.specs.Answers.{IsPrintedValue, HasCause}
use Rattle.gl_book.specs.declared.answer.Cause.{Cause}
use Rattle.explain_findings.specs.declared.replay.FormFault.{FormFault}
use Rattle.explain_findings.specs.declared.replay.FormFault.TheVariants as fault
use Rattle.explain_findings.specs.declared.replay.Refused.{Refused}

-- the state behind so many items
pub record Reached : Type 0 where
  pub state : BookState
  pub next : ℕ

abbrev pub coded_reached : Coded Reached
coded_reached = code_by (BookState × ℕ) (coded× coded_state coded_ℕ) (λ r. (r.state, r.next)) (λ p. record { state = p.0; next = p.1 }) (λ r. λ i. r)

-- a constant gets its value; that of another event is not looked at
abbrev pub IsConstantOf : BookState → EventSeen → Object → Type 0
IsConstantOf s (Defconst name t) x = IsPrintedValue s.world t x
IsConstantOf s _ x = Unit {0}

-- the state behind an event of a form
abbrev pub IsNext : BookState → Object → EventSeen → BookState → Type 0
IsNext s form event t = (value : Object) × IsConstantOf s event value × (t ≡ next_state s form event value)

-- and behind a form, which means an event
abbrev pub IsTaken : List (List ℕ) → BookState → Object → BookState → Type 0
IsTaken names s form t = (event : EventSeen) × (event_in names s form ≡ Ok event) × IsNext s form event t

-- the state behind items, from the one in front of them. A mark changes nothing
abbrev pub IsBehind : List (List ℕ) → List Item → BookState → BookState → Type 0
IsBehind names [] s t = t ≡ s
IsBehind names (item.Mark m ∷ items) s t = IsBehind names items s t
IsBehind names (item.Form form ∷ items) s t = (u : BookState) × IsTaken names s form.tree u × IsBehind names items u t

-- ---- refusals
-- a constant lacks its value for a cause
abbrev pub LacksConstant : Bounds → BookState → EventSeen → Cause → Type 0
LacksConstant bounds s (Defconst name t) cause = HasCause bounds s.world s.memoized t cause
LacksConstant bounds s _ cause = ⊥

-- a form means no event, or a constant that lacks its value
abbrev pub IsRefused : List (List ℕ) → Bounds → BookState → Object → FormFault → Type 0
IsRefused names bounds s form (fault.Event code) = event_in names s form ≡ Err code
IsRefused names bounds s form (fault.Constant cause) = (event : EventSeen) × (event_in names s form ≡ Ok event) × LacksConstant bounds s event cause

abbrev pub IsRefusedItem : List (List ℕ) → Bounds → BookState → Option Item → FormFault → Type 0
IsRefusedItem names bounds s (Some (item.Form form)) f = IsRefused names bounds s form.tree f
IsRefusedItem names bounds s _ f = ⊥

-- an event is taken in, or is a constant that lacks its value, and the state stays
abbrev pub TakesEvent : Bounds → BookState → Object → EventSeen → BookState → Option Cause → Type 0
TakesEvent bounds s form event t None = IsNext s form event t
TakesEvent bounds s form event t (Some cause) = (t ≡ s) × LacksConstant bounds s event cause

-- a form is taken in, or refused, and the state stays
abbrev pub TakesForm : List (List ℕ) → Bounds → BookState → Object → BookState → Option FormFault → Type 0
TakesForm names bounds s form t None = IsTaken names s form t
TakesForm names bounds s form t (Some f) = (t ≡ s) × IsRefused names bounds s form f

-- an item is taken in: a form, or a mark, which changes nothing
abbrev pub TakesItem : List (List ℕ) → Bounds → BookState → Item → BookState → Option FormFault → Type 0
TakesItem names bounds s (item.Form form) t refused = TakesForm names bounds s form.tree t refused
TakesItem names bounds s (item.Mark m) t None = t ≡ s
TakesItem names bounds s (item.Mark m) t (Some f) = ⊥

-- items are taken in up to a number and no further, or to the end of the list, or up to the first that is refused
pub record GoesOn (names : List (List ℕ)) (bounds : Bounds) (items : List Item) (end : ℕ) (old new : Reached) (refused : Option Refused) : Type 0 where
  pub forward : old.next ≤ new.next
  pub within : old.next ≤ end → new.next ≤ end
  pub behind : IsBehind names (take (new.next - old.next) (drop old.next items)) old.state new.state
  pub stops : MatchOption refused (min end (length items) ≤ new.next) (λ r. (r.item ≡ new.next) × IsRefusedItem names bounds new.state (slice_get items new.next) r.fault)
