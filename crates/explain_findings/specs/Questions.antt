-- What the library answers to the event of a form.
use Rattle.std.specs.Prelude.{◌≡◌, ◌≢◌, ℕ, List, Option, Some, None, Ok}
use Rattle.gl_logic.specs.Object.{Object}
use Rattle.shape_spec.specs.declared.theorem.Mode.{Mode}
use Rattle.event_world.specs.EventSeen.{EventSeen, Theorem}
use Rattle.event_world.specs.NextState.{BookState}
use Rattle.gl_decide.specs.Bounds.{Bounds}
use Rattle.book_state.specs.States.{event_in}
use Rattle.gl_book.specs.declared.answer.Answer.{Answer}
use Rattle.gl_book.specs.Answers.{IsProperAnswer}
use Rattle.explain_report.specs.declared.record.Verdict.TheVariants as verdict
use Rattle.explain_report.specs.declared.record.Found.{Found}
use Rattle.explain_findings.specs.Founds.{IsFound}

-- a theorem in another mode, where one is said
abbrev pub in_mode : Option Mode → EventSeen → EventSeen
in_mode (Some m) (Theorem thm) = Theorem (record thm { mode = m })
in_mode _ e = e

-- an answer that is proper for the event of a form in a state
pub record IsAnswerTo (names : List (List ℕ)) (bounds : Bounds) (s : BookState) (m : Option Mode) (form : Object) (a : Answer) : Type 0 where
  pub event : EventSeen
  pub meant : event_in names s form ≡ Ok event
  pub proper : IsProperAnswer bounds s.world s.memoized (in_mode m event) a

-- unless the form is refused, it is that answer that is told
abbrev pub IsFoundBy : List (List ℕ) → Bounds → BookState → Option Mode → Object → Found → Type 0
IsFoundBy names bounds s m form f = f.verdict ≢ verdict.Refused → (a : Answer) × IsAnswerTo names bounds s m form a × IsFound names a f
