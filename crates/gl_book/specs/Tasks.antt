-- What is given to a worker at once, and how the answers to the jobs of a phase come of the answers to their tasks.
use Rattle.std.specs.Prelude.{◌≡◌, ℕ, ◌≤◌, List, [], ◌∷◌, ◌++◌, length, map, All}
use Rattle.std.specs.List.{flat_map}
use Rattle.gl_logic.specs.WorldSeen.{WorldSeen}
use Rattle.event_world.specs.EventSeen.{EventSeen, Theorem, Cases}
use Rattle.event_world.specs.Seen.{event_seen}
use Rattle.shape_spec.specs.TheoremSeen.{TheoremSeen, theorem_seen}
use Rattle.gl_decide.specs.Bounds.{Bounds}
use Rattle.gl_decide.specs.Verdicts.{IsProperVerdict}
use Rattle.gl_decide.specs.declared.verdict.Verdict.{Verdict}
use Rattle.gl_book.specs.Cases.{AreProperVerdicts}
use Rattle.gl_book.specs.Phases.{JobSeen, new_job, CanBeAnswered, IsAnsweredBy, AreAnswered}
use Rattle.gl_book.specs.declared.answer.Answer.{Answer}
use Rattle.gl_book.specs.declared.task.Task.{Task}
use Rattle.gl_book.specs.declared.task.Task.TheVariants as task
use Rattle.gl_book.specs.declared.task.Tasks.{Tasks}

-- ---- tasks
-- a theorem by cases gives its cover and then each of its cases, and any other job itself
abbrev pub parts_of : EventSeen → List EventSeen
parts_of (Cases thm) = Theorem thm.cover ∷ map Theorem thm.cases
parts_of e = e ∷ []

-- a task is a job with nothing behind it
abbrev pub tasks_of : JobSeen → List JobSeen
tasks_of j = map (λ e. new_job e j.memoized) (parts_of j.event)

-- those of theorems
abbrev pub theorem_tasks : List ℕ → List TheoremSeen → List JobSeen
theorem_tasks memoized thms = map (λ e. new_job e memoized) (map Theorem thms)

abbrev pub task_seen : Task → JobSeen
task_seen (task.Event e memoized) = new_job (event_seen e.now) memoized.now
task_seen (task.Theorem thm memoized) = new_job (Theorem (theorem_seen thm.now)) memoized.now

abbrev pub tasks_in : Tasks → List JobSeen
tasks_in tasks = map task_seen tasks.items.items

-- ---- answers
abbrev pub HasFewParts : JobSeen → Type 0
HasFewParts j = length (parts_of j.event) ≤ 65

-- wherever these are answers to the tasks of the jobs, those are answers to the jobs
abbrev pub Gathers : List JobSeen → List Answer → List Answer → Type 0
Gathers jobs given gathered =
    (bounds : Bounds) (w : WorldSeen) → All (CanBeAnswered w.definitions) jobs → AreAnswered bounds w (flat_map tasks_of jobs) given → AreAnswered bounds w jobs gathered

-- wherever the first answers are those to the tasks of a job, this answers the job, and the others are left
abbrev pub TakesAnswer : JobSeen → List Answer → Answer → List Answer → Type 0
TakesAnswer j given a left =
    (bounds : Bounds) (w : WorldSeen) (tasks : List JobSeen) → CanBeAnswered w.definitions j → AreAnswered bounds w (tasks_of j ++ tasks) given → IsAnsweredBy bounds w j a × AreAnswered bounds w tasks left

-- wherever the first answer is that to a theorem, this is its verdict
abbrev pub TakesVerdict : List Answer → Verdict → List Answer → Type 0
TakesVerdict given v left =
    (bounds : Bounds) (w : WorldSeen) (thm : TheoremSeen) (memoized : List ℕ) (tasks : List JobSeen) → AreAnswered bounds w (new_job (Theorem thm) memoized ∷ tasks) given
    → IsProperVerdict w bounds thm v × AreAnswered bounds w tasks left

-- wherever the first answers are those to theorems, these are their verdicts
abbrev pub TakesVerdicts : ℕ → List Answer → List Verdict → List Answer → Type 0
TakesVerdicts n given vs left =
    (bounds : Bounds) (w : WorldSeen) (thms : List TheoremSeen) (memoized : List ℕ) (tasks : List JobSeen) → length thms ≡ n → AreAnswered bounds w (theorem_tasks memoized thms ++ tasks) given
    → AreProperVerdicts bounds w thms vs × AreAnswered bounds w tasks left
