-- How far a walk has come, where some of its answers are still to come.
use Rattle.std.specs.Prelude.{◌≡◌, ℕ, suc, ◌+◌, ◌<◌, ◌^◌, Bool, false, List, [], ◌∷◌, ◌++◌, All, length, drop, Option, None, Some, Ok, slice_get}
use Rattle.std.specs.List.{flat_map, list_any}
use Rattle.gl_logic.specs.Every.{Every}
use Rattle.gl_logic.specs.Object.{Object, nil}
use Rattle.gl_base.specs.Outside.{Grows}
use Rattle.book_shelf.specs.declared.item.Item.{Item}
use Rattle.book_shelf.specs.declared.library.Library.{Library}
use Rattle.event_world.specs.EventSeen.{EventSeen}
use Rattle.event_world.specs.NextState.{BookState, next_state}
use Rattle.event_world.specs.Suits.{Suits}
use Rattle.gl_decide.specs.Bounds.{Bounds}
use Rattle.gl_decide.specs.Stalls.{StallSeen}
use Rattle.gl_book.specs.Answers.{IsProperAnswer}
use Rattle.gl_book.specs.Entry.{Entry, Answered, Marked, stalls_of, stalls_in}
use Rattle.gl_book.specs.Lines.{entry_lines, event_lines, counts_of, is_refusal}
use Rattle.gl_book.specs.Phases.{JobSeen, IsFollowed, CanBeAnswered, AreAnswered, jobs_of, new_job}
use Rattle.gl_book.specs.Stops.{closing, Keeps, KeepsFront, told_before, counts_with, WritesBefore, WritesBeforeFront, WritesWalkFront}
use Rattle.gl_book.specs.Walk.{Walk}
use Rattle.book_state.specs.Answerable.{IsAnswerable}
use Rattle.book_state.specs.States.{CanGoOn, event_in, state_noted}
use Rattle.gl_book.specs.declared.answer.Answer.{Answer}
use Rattle.gl_book.specs.declared.answer.Answer.TheVariants as answer
use Rattle.gl_book.specs.declared.counts.Counts.{Counts}
use Rattle.gl_book.specs.declared.progress.Progress.{Progress}
use Rattle.gl_book.specs.declared.refusal.Refusal.{Refusal}

-- ---- the end of a phase
-- the lines of a job and of the events behind it
abbrev pub job_lines : List (List ℕ) → JobSeen → Answer → List (List ℕ)
job_lines names j a = event_lines names j.event a ++ j.behind

abbrev pub phase_lines : List (List ℕ) → List JobSeen → List Answer → List (List ℕ)
phase_lines names (j ∷ js) (a ∷ given) = job_lines names j a ++ phase_lines names js given
phase_lines names _ _ = []

abbrev pub counts_after : Counts → List Answer → Counts
counts_after counts [] = counts
counts_after counts (a ∷ given) = counts_after (counts_with counts a) given

-- what the jobs that wait tell was written, with these answers
abbrev pub WritesPhase : List (List ℕ) → Bool → List JobSeen → List Answer → Option (List ℕ) → Option (List ℕ) → Type 0
WritesPhase names last_only jobs given old new = WritesBefore last_only (phase_lines names jobs given) old new

-- or the front of it
abbrev pub WritesPhaseFront : List (List ℕ) → Bool → List JobSeen → List Answer → Option (List ℕ) → Option (List ℕ) → Type 0
WritesPhaseFront names last_only jobs given old new = WritesBeforeFront last_only (phase_lines names jobs given) old new

-- the stalls of the answers were added to those before
abbrev pub KeepsPhase : List Answer → List StallSeen → List StallSeen → Type 0
KeepsPhase given before after = Keeps (flat_map stalls_of given) before after

-- or the front of them
abbrev pub KeepsPhaseFront : List Answer → List StallSeen → List StallSeen → Type 0
KeepsPhaseFront given before after = KeepsFront (flat_map stalls_of given) before after

-- ---- events and marks whose lines wait
-- neither counted nor stalled, and no refusal
abbrev pub IsQuiet : Entry → Type 0
IsQuiet (Answered e answer.Done) = Unit {0}
IsQuiet (Answered e (answer.Function t)) = Unit {0}
IsQuiet (Marked m) = Unit {0}
IsQuiet _ = ⊥

-- behind each job stand the lines of these entries
abbrev pub AreBehind : List (List ℕ) → List JobSeen → List (List Entry) → Type 0
AreBehind names [] [] = Unit {0}
AreBehind names (j ∷ js) (es ∷ ess) = (j.behind ≡ flat_map (entry_lines names) es) × Every IsQuiet es × AreBehind names js ess
AreBehind names _ _ = ⊥

-- the entries of the jobs, once their answers have come, each with those behind it
abbrev pub waited : List JobSeen → List (List Entry) → List Answer → List Entry
waited (j ∷ js) (es ∷ ess) (a ∷ given) = Answered j.event a ∷ (es ++ waited js ess given)
waited _ _ _ = []

-- an event that is answered in a state while jobs wait: its lines come behind those of the last job
pub record IsPutBehind (names : List (List ℕ)) (bounds : Bounds) (s : BookState) (e : EventSeen) (jobs later : List JobSeen) : Type 0 where
  pub answer : Answer
  pub proper : IsProperAnswer bounds s.world s.memoized e answer
  pub behind : IsFollowed jobs (event_lines names e answer) later

-- how many they are
abbrev pub count_waited : List (List Entry) → ℕ
count_waited [] = 0
count_waited (es ∷ ess) = suc (length es) + count_waited ess

-- ---- the way
-- a book that is walked over from a state on, and what the sink and the stalls held before
pub record Course : Type 0 where
  pub first : BookState
  pub book : Library
  pub written : Option (List ℕ)
  pub stalls : List StallSeen

-- a place on it: the state, the counts and the jobs that wait, and what the sink and the stalls hold
pub record Place : Type 0 where
  pub state : BookState
  pub counts : Counts
  pub waiting : List JobSeen
  pub written : Option (List ℕ)
  pub stalls : List StallSeen

-- a walk over a book from a place on
abbrev pub course_from : Library → Place → Course
course_from book p = record { first = p.state; book = book; written = p.written; stalls = p.stalls }

abbrev pub place_at : Progress → Option (List ℕ) → List StallSeen → Place
place_at p written stalls = record { state = p.state; counts = p.counts; waiting = jobs_of p.waiting; written = written; stalls = stalls }

-- so many items are taken in: what is done of them is counted, written and kept, and whatever proper answers come for the
-- jobs that wait, each walk of what is left makes a walk of the whole
pub record Stands (names : List (List ℕ)) (bounds : Bounds) (last_only : Bool) (c : Course) (i : ℕ) (p : Place) : Type 0 where
  pub done : List Entry
  pub behind : List (List Entry)
  pub can : CanGoOn p.state
  pub ready : All (CanBeAnswered p.state.world.definitions) p.waiting
  pub follow : AreBehind names p.waiting behind
  pub onward : (given : List Answer) → AreAnswered bounds p.state.world p.waiting given → (entries : List Entry) → Walk names bounds p.state (drop i c.book.items) c.book.finish entries
      → Walk names bounds c.first c.book.items c.book.finish (done ++ (waited p.waiting behind given ++ entries))
  pub counted : p.counts ≡ counts_of done
  pub many : length done + count_waited behind ≡ i
  pub answered : list_any is_refusal done ≡ false
  pub written : Grows c.written p.written (told_before last_only (flat_map (entry_lines names) done))
  pub stalls : p.stalls ≡ c.stalls ++ stalls_in done

-- wherever a walk has come to the one place, it comes to the other
abbrev pub Leads : List (List ℕ) → Bounds → Bool → Place → Place → Type 0
Leads names bounds last_only p q = (c : Course) (i : ℕ) → Stands names bounds last_only c i p → Stands names bounds last_only c i q

-- wherever a walk has come to the place, the front of what it may write was written, and of its stalls kept
abbrev pub LeadsToFront : List (List ℕ) → Bounds → Bool → Place → Option (List ℕ) → List StallSeen → Type 0
LeadsToFront names bounds last_only p new after =
    (c : Course) (i : ℕ) → Stands names bounds last_only c i p → WritesWalkFront names bounds c.first c.book last_only c.written new c.stalls after

-- the same, where this item is the next
abbrev pub LeadsPastToFront : List (List ℕ) → Bounds → Bool → Item → Place → Option (List ℕ) → List StallSeen → Type 0
LeadsPastToFront names bounds last_only next p new after =
    (c : Course) (i : ℕ) → slice_get c.book.items i ≡ Some next → Stands names bounds last_only c i p → WritesWalkFront names bounds c.first c.book last_only c.written new c.stalls after

-- no job waits, and what comes of the items left is this refusal, or nothing
pub record IsAtEnd (names : List (List ℕ)) (bounds : Bounds) (last_only : Bool) (c : Course) (i : ℕ) (p : Place) (r : Option Refusal) : Type 0 where
  pub stands : Stands names bounds last_only c i p
  pub none : p.waiting ≡ []
  pub ends : Walk names bounds p.state (drop i c.book.items) c.book.finish (closing r)

-- the same, behind some item
abbrev pub ComesToEnd : List (List ℕ) → Bounds → Bool → Course → Place → Option Refusal → Type 0
ComesToEnd names bounds last_only c p r = (i : ℕ) × IsAtEnd names bounds last_only c i p r

-- wherever a walk has come to the one place and this item is the next, it comes past the item to the other, or the item is
-- refused there
abbrev pub LeadsPast : List (List ℕ) → Bounds → Bool → Item → Place → Option Refusal → Place → Type 0
LeadsPast names bounds last_only next p None q = (c : Course) (i : ℕ) → slice_get c.book.items i ≡ Some next → Stands names bounds last_only c i p → Stands names bounds last_only c (i + 1) q
LeadsPast names bounds last_only next p (Some r) q = (c : Course) (i : ℕ) → slice_get c.book.items i ≡ Some next → Stands names bounds last_only c i p → IsAtEnd names bounds last_only c i q (Some r)

-- the same, where nothing is written and no stall is kept, whatever there was of both
abbrev pub LeadsAlong : List (List ℕ) → Bounds → Bool → Item → Progress → Progress → Type 0
LeadsAlong names bounds last_only next old new =
    (written : Option (List ℕ)) (stalls : List StallSeen) → LeadsPast names bounds last_only next (place_at old written stalls) None (place_at new written stalls)

-- ---- forms
-- an event that a form means in a state: it suits the world, and it can be answered there
pub record IsNext (names : List (List ℕ)) (s : BookState) (form : Object) (e : EventSeen) : Type 0 where
  pub meant : event_in names s form ≡ Ok e
  pub suits : Suits s.world e
  pub answerable : IsAnswerable s.world.definitions s.memoized e

-- a job waits, as the last
pub record Waits (form : Object) (e : EventSeen) (old new : Progress) : Type 0 where
  pub state : new.state ≡ state_noted old.state form e
  pub waiting : jobs_of new.waiting ≡ jobs_of old.waiting ++ new_job e old.state.memoized ∷ []
  pub counts : new.counts ≡ old.counts

-- an event is answered while jobs wait. Its answer changes the state no more than the event does
pub record Follows (names : List (List ℕ)) (bounds : Bounds) (form : Object) (e : EventSeen) (old new : Progress) : Type 0 where
  pub put : IsPutBehind names bounds old.state e (jobs_of old.waiting) (jobs_of new.waiting)
  pub state : new.state ≡ next_state old.state form e nil
  pub counts : new.counts ≡ old.counts

-- ---- the end of a phase, as a whole
-- an answer for each job, proper at its place; their lines were written and their stalls kept, in the order of the book
pub record EndsPhase (names : List (List ℕ)) (bounds : Bounds) (last_only : Bool) (old : Progress) (written : Option (List ℕ)) (stalls : List StallSeen) (new : Progress) (now : Option (List ℕ)) (after : List StallSeen) : Type 0 where
  pub answers : List Answer
  pub proper : AreAnswered bounds old.state.world (jobs_of old.waiting) answers
  pub writes : WritesPhase names last_only (jobs_of old.waiting) answers written now
  pub keeps : KeepsPhase answers stalls after
  pub state : new.state ≡ old.state
  pub counts : new.counts ≡ counts_after old.counts answers
  pub none : jobs_of new.waiting ≡ []

-- the front of them
pub record EndsPhaseByFront (names : List (List ℕ)) (bounds : Bounds) (last_only : Bool) (old : Progress) (written : Option (List ℕ)) (stalls : List StallSeen) (now : Option (List ℕ)) (after : List StallSeen) : Type 0 where
  pub answers : List Answer
  pub proper : AreAnswered bounds old.state.world (jobs_of old.waiting) answers
  pub writes : WritesPhaseFront names last_only (jobs_of old.waiting) answers written now
  pub keeps : KeepsPhaseFront answers stalls after

-- each count has room for so many answers more
pub record HasRoomFor (n : ℕ) (c : Counts) : Type 0 where
  pub proved : c.proved + n < 2 ^ 64
  pub vacuous : c.vacuous + n < 2 ^ 64
  pub refuted : c.refuted + n < 2 ^ 64
  pub undecided : c.undecided + n < 2 ^ 64
  pub failed : c.failed + n < 2 ^ 64
