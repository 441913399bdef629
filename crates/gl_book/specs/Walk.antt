-- What comes of a book's forms and of the books that it includes, one after the other.
use Rattle.std.specs.Prelude.{◌≡◌, ◌≢◌, ℕ, List, [], ◌∷◌, Option, Some, None, Ok, Err}
use Rattle.gl_logic.specs.Object.{Object, nil}
use Rattle.sexp_reader.specs.declared.list.Form.{Form}
use Rattle.book_shelf.specs.declared.finish.Finish.{Finish}
use Rattle.book_shelf.specs.declared.finish.Finish.TheVariants as finish
use Rattle.book_shelf.specs.declared.finish.Finish.TheVariants.{Clean}
use Rattle.book_shelf.specs.declared.finish.ShelfCode.{ShelfCode}
use Rattle.book_shelf.specs.declared.finish.ShelfCode.TheVariants as shelf
use Rattle.book_shelf.specs.declared.item.Item.{Item}
use Rattle.book_shelf.specs.declared.item.Item.TheVariants as item
use Rattle.book_shelf.specs.declared.item.Mark.{Mark}
use Rattle.event_world.specs.declared.fault.EventFault.{EventFault}
use Rattle.event_world.specs.EventSeen.{EventSeen, Defconst}
use Rattle.event_world.specs.NextState.{BookState, next_state}
use Rattle.gl_decide.specs.Bounds.{Bounds}
use Rattle.book_state.specs.States.{event_in}
use Rattle.gl_book.specs.Answers.{IsProperAnswer}
use Rattle.gl_book.specs.Entry.{Entry, Answered, Marked, Refused}
use Rattle.gl_book.specs.declared.refusal.Refusal.{Refusal}
use Rattle.gl_book.specs.declared.refusal.RefusalCode.{RefusalCode}
use Rattle.gl_book.specs.declared.refusal.RefusalCode.TheVariants as code
use Rattle.gl_book.specs.declared.answer.Answer.{Answer}
use Rattle.gl_book.specs.declared.answer.Answer.TheVariants as answer
use Rattle.gl_book.specs.declared.answer.Cause.{Cause}
use Rattle.gl_book.specs.declared.answer.Cause.TheVariants as cause

-- ---- states
-- the value that an answer gives
abbrev pub value_in : Answer → Object
value_in (answer.Value x) = x
value_in _ = nil

abbrev pub state_after : BookState → Object → EventSeen → Answer → BookState
state_after s form e a = next_state s form e (value_in a)

-- ---- refusals
-- a refusal at a form's place
abbrev pub refusal_at : Form → RefusalCode → Refusal
refusal_at form code = record { line = form.line; column = form.column; code = code }

-- the end of a list of forms and books
abbrev pub end_code : ShelfCode → RefusalCode
end_code (shelf.Text fault) = code.Text fault
end_code shelf.TooLong = code.TooLong
end_code shelf.Cyclic = code.Cyclic
end_code shelf.Many = code.Many

abbrev pub end_refusal : ℕ → ℕ → ShelfCode → Refusal
end_refusal line column fault = record { line = line; column = column; code = end_code fault }

-- the cause for which a constant has no value
abbrev pub constant_cause : Answer → Option Cause
constant_cause (answer.Undecided why) = Some why
constant_cause _ = None

abbrev pub refused_cause : EventSeen → Answer → Option Cause
refused_cause (Defconst name t) a = constant_cause a
refused_cause _ a = None

-- ---- forms
-- what comes of a list from a state on, by the limits of the run
pub data Walk (names : List (List ℕ)) (bounds : Bounds) : BookState → List Item → Finish → List Entry → Type 0 where
  -- nothing is left: nothing more, or the refusal that ends the list
  ended : (s : BookState) → Walk names bounds s [] Clean []
  bad : (s : BookState) (line column : ℕ) (fault : ShelfCode) → Walk names bounds s [] (finish.Refused line column fault) (Refused (end_refusal line column fault) ∷ [])
  -- a mark changes nothing
  marked : (s : BookState) (m : Mark) (items : List Item) (end : Finish) (entries : List Entry) → Walk names bounds s items end entries
      → Walk names bounds s (item.Mark m ∷ items) end (Marked m ∷ entries)
  -- the next form is refused, which ends the book
  refused : (s : BookState) (form : Form) (items : List Item) (end : Finish) (fault : EventFault) → event_in names s form.tree ≡ Err fault
      → Walk names bounds s (item.Form form ∷ items) end (Refused (refusal_at form (code.Event fault)) ∷ [])
  -- or it means a constant that has no value for a cause other than memory, which ends the book
  without_value : (s : BookState) (form : Form) (items : List Item) (end : Finish) (e : EventSeen) (a : Answer) (why : Cause) → event_in names s form.tree ≡ Ok e
      → IsProperAnswer bounds s.world s.memoized e a → refused_cause e a ≡ Some why → why ≢ cause.Memory
      → Walk names bounds s (item.Form form ∷ items) end (Refused (refusal_at form (code.Constant why)) ∷ [])
  -- or it means an event, which is answered before the next form is looked at
  event : (s : BookState) (form : Form) (items : List Item) (end : Finish) (entries : List Entry) (e : EventSeen) (a : Answer) → event_in names s form.tree ≡ Ok e
      → IsProperAnswer bounds s.world s.memoized e a → refused_cause e a ≡ None → Walk names bounds (state_after s form.tree e a) items end entries
      → Walk names bounds s (item.Form form ∷ items) end (Answered e a ∷ entries)
