-- Each walk can be gone on with.
use Rattle.std.proofs.Common.{◌≡◌, refl, ℕ, List, [], ◌∷◌, inl, inr}
use Rattle.std.specs.Prelude.{Result, Ok, Err, OnOk, OnErr, IfOk}
use Rattle.gl_base.specs.declared.status.Status.{Status}
use Rattle.sexp_reader.specs.declared.list.Form.{Form}
use Rattle.book_shelf.specs.declared.finish.Finish.{Finish}
use Rattle.book_shelf.specs.declared.finish.Finish.TheVariants as finish
use Rattle.book_shelf.specs.declared.item.Item.{Item}
use Rattle.book_shelf.specs.declared.item.Item.TheVariants as item
use Rattle.event_world.specs.EventSeen.{EventSeen}
use Rattle.event_world.specs.NextState.{BookState}
use Rattle.event_world.specs.Outcomes.{Outcome}
use Rattle.event_world.proofs.SuitedEvents.{event_suits}
use Rattle.gl_decide.specs.Bounds.{Bounds}
use Rattle.gl_book.specs.Entry.{Entry, Answered, Marked, Refused}
use Rattle.gl_book.specs.Stops.{closing, refusal_of}
use Rattle.gl_book.specs.Walk.{state_after, refusal_at, Walk, ended, bad, marked, refused, without_value, event}
use Rattle.book_state.specs.States.{CanGoOn, event_in}
use Rattle.gl_book.specs.declared.refusal.RefusalCode.TheVariants as code
use Rattle.gl_book.specs.declared.stop.Stop.{Stop}
use Rattle.gl_book.proofs.GoOn.{some_answer, after_event}

-- ---- each walk can be gone on with
module _ (names : List (List ℕ)) (bounds : Bounds) (end : Finish) where
  next_walk : (s : BookState) (form : Form) (items : List Item) (r : Outcome EventSeen) → event_in names s form.tree ≡ r → CanGoOn s
      → ((t : BookState) → CanGoOn t → (entries : List Entry) × Walk names bounds t items end entries) → (entries : List Entry) × Walk names bounds s (item.Form form ∷ items) end entries
  next_walk s form items (Ok e) is h rest =
      let some = some_answer bounds s e h (event_suits names s.world s.mode s.memoized form.tree e is) in
      elim some.comes [
        | inl none ↦
            let others = rest (state_after s form.tree e some.answer) (after_event names s form.tree e some.answer h is) in
            (Answered e some.answer ∷ others.0, event s form items end others.0 e some.answer is some.proper none others.1)
        | inr why ↦ (Refused (refusal_at form (code.Constant why.0)) ∷ [], without_value s form items end e some.answer why.0 is some.proper why.1 why.2)
      ]
  next_walk s form items (Err fault) is h rest = (Refused (refusal_at form (code.Event fault)) ∷ [], refused s form items end fault is)

pub last_walk : (names : List (List ℕ)) (bounds : Bounds) (end : Finish) (state : BookState) → Walk names bounds state [] end (closing (refusal_of end))
last_walk names bounds finish.Clean state = ended state
last_walk names bounds (finish.Refused line column fault) state = bad state line column fault

pub some_walk : (names : List (List ℕ)) (bounds : Bounds) (end : Finish) (state : BookState) (items : List Item) → CanGoOn state → (entries : List Entry) × Walk names bounds state items end entries
some_walk names bounds end state [] h = (closing (refusal_of end), last_walk names bounds end state)
some_walk names bounds end state (item.Mark m ∷ items) h = let rest = some_walk names bounds end state items h in (Marked m ∷ rest.0, marked state m items end rest.0 rest.1)
some_walk names bounds end state (item.Form form ∷ items) h = next_walk names bounds end state form items (event_in names state form.tree) refl h (λ s g. some_walk names bounds end s items g)

-- ---- results
module _ {P : Type 0} where
  pub when_ok : (r : Result Status Stop) (Q R : Status → Type 0) → OnOk r P → IfOk r Q → ((s : Status) → P → Q s → R s) → IfOk r R
  when_ok (Ok s) Q R p q f = f s p q
  when_ok (Err e) Q R p q f = tt

  pub when_err : {Q : Type 0} (r : Result Status Stop) → OnErr r P → (P → Q) → OnErr r Q
  when_err (Ok s) p f = tt
  when_err (Err e) p f = f p
