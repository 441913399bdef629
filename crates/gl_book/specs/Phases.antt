-- The jobs of a phase, and when their answers are proper.
use Rattle.std.specs.Prelude.{◌≡◌, ◌⊎◌, ℕ, ◌≤◌, ◌<◌, Bool, true, false, not, ◌&&◌, cond, eqb, nat_lt, List, [], ◌∷◌, ◌++◌, length, map, Result, Ok, Err, IfOk, Vec}
use Rattle.std.proofs.Common.{Global}
use Rattle.gl_logic.specs.Definition.{Definition}
use Rattle.gl_logic.specs.WorldSeen.{WorldSeen}
use Rattle.event_world.specs.EventSeen.{EventSeen, Defun, Defconst, Clique}
use Rattle.event_world.specs.Seen.{event_seen}
use Rattle.gl_decide.specs.Bounds.{Bounds}
use Rattle.book_state.specs.States.{is_job}
use Rattle.gl_book.specs.Answers.{IsProperAnswer}
use Rattle.book_state.specs.Answerable.{IsAnswerable}
use Rattle.gl_book.specs.declared.answer.Answer.{Answer}
use Rattle.gl_book.specs.declared.job.Job.{Job}
use Rattle.gl_book.specs.declared.piece.Piece.{Piece}
use Rattle.gl_book.specs.declared.waiting.Waiting.{Waiting}
use Rattle.gl_book.specs.Pieces.{run_of}
use Rattle.gl_logic.specs.declared.ids.NoMemory.{NoMemory}

-- ---- kinds of events
-- it changes the definitions or the constants that later answers rest on
abbrev pub ends_phase : EventSeen → Bool
ends_phase (Defun d) = true
ends_phase (Clique ds) = true
ends_phase (Defconst name t) = true
ends_phase _ = false

-- ---- jobs
-- an event, the functions whose calls are kept at its place, and the lines of the events behind it, up to the next job
pub record JobSeen : Type 0 where
  pub event : EventSeen
  pub memoized : List ℕ
  pub behind : List (List ℕ)

abbrev pub job_seen : Job → JobSeen
job_seen job = record { event = event_seen job.event; memoized = job.memoized; behind = job.behind }

abbrev pub jobs_of : Waiting → List JobSeen
jobs_of waiting = map job_seen waiting.jobs.items

abbrev pub new_job : EventSeen → List ℕ → JobSeen
new_job e memoized = record { event = e; memoized = memoized; behind = [] }

-- an event that is taken in before its phase ends: a job, or another behind a job
abbrev pub StaysIn : List JobSeen → EventSeen → Type 0
StaysIn jobs e = (is_job e ≡ true) ⊎ ((ends_phase e ≡ false) × (0 < length jobs))

-- whether it is taken in so where there are so many workers: a job unless it is one worker's
abbrev pub stays_by : ℕ → List JobSeen → EventSeen → Bool
stays_by workers jobs e = cond (is_job e) (not (eqb workers 1)) (nat_lt 0 (length jobs) && not (ends_phase e))

-- lines more behind the last job
pub record IsFollowed (old : List JobSeen) (lines : List (List ℕ)) (new : List JobSeen) : Type 0 where
  pub says : (before : List JobSeen) (last : JobSeen) → old ≡ before ++ last ∷ [] → new ≡ before ++ record last { behind = last.behind ++ lines } ∷ []
  pub none : old ≡ [] → new ≡ []

-- ---- answers
-- a job whose terms and functions are those of these definitions
pub record CanBeAnswered (definitions : List Definition) (j : JobSeen) : Type 0 where
  pub job : is_job j.event ≡ true
  pub can : IsAnswerable definitions j.memoized j.event

abbrev pub IsAnsweredBy : Bounds → WorldSeen → JobSeen → Answer → Type 0
IsAnsweredBy bounds w j a = IsProperAnswer bounds w j.memoized j.event a

-- an answer for each job, in order, each proper for the functions at the job's own place
abbrev pub AreAnswered : Bounds → WorldSeen → List JobSeen → List Answer → Type 0
AreAnswered bounds w [] [] = Unit {0}
AreAnswered bounds w (j ∷ js) (a ∷ given) = IsAnsweredBy bounds w j a × AreAnswered bounds w js given
AreAnswered bounds w _ _ = ⊥

-- ---- pieces
abbrev pub IsWithin : ℕ → Piece → Type 0
IsWithin count p = p.end ≤ count

-- an answer for each job of a piece, or memory was refused
abbrev pub IsPieceAnswered : Bounds → WorldSeen → List JobSeen → Piece → Result (Vec Answer Global) NoMemory → Type 0
IsPieceAnswered bounds w jobs p r = IfOk r (λ v. AreAnswered bounds w (run_of jobs p) v.items)

-- the answers of all pieces, one behind the other, where each has them
abbrev pub Joins : List (Result (Vec Answer Global) NoMemory) → List Answer → Type 0
Joins [] given = given ≡ []
Joins (Ok v ∷ rs) given = (rest : List Answer) × (given ≡ v.items ++ rest) × Joins rs rest
Joins (Err e ∷ rs) given = ⊥
