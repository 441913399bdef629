-- Events that are taken in before their phase ends, and what memory alone does not hinder.
use Rattle.std.proofs.Common.{◌≡◌, sym, refl, ℕ, ◌<◌, List, [], ◌∷◌, ◌++◌, length, append-nil, Bool, true, false, Option, None, inl, inr}
use Rattle.std.specs.List.{All}
use Rattle.std.proofs.lemmas.List.Elements.{All-nil, All-cons, All-push, All-head, All-tail}
use Rattle.gl_logic.specs.Object.{Object, nil}
use Rattle.gl_logic.specs.Definition.{Definition}
use Rattle.gl_logic.specs.WorldSeen.{WorldSeen}
use Rattle.event_world.specs.EventSeen.{EventSeen, Nothing, Redundant, Defun, Defconst, Value, Assert, Memoize, Unmemoize, SetMode, Theorem, Cases, Clique, RedundantClique}
use Rattle.event_world.specs.NextState.{BookState, next_state}
use Rattle.gl_decide.specs.Bounds.{Bounds}
use Rattle.gl_decide.specs.Stalls.{StallSeen}
use Rattle.gl_decide.specs.declared.verdict.Verdict.TheVariants as verdict
use Rattle.gl_book.specs.Answers.{IsProperAnswer}
use Rattle.book_state.specs.Answerable.{IsOfDefinitions}
use Rattle.gl_book.specs.declared.cases.CasesVerdict.TheVariants as whole
use Rattle.gl_book.proofs.PartsDecided.{memory_decides}
use Rattle.gl_book.specs.Courses.{EndsPhaseByFront, IsQuiet}
use Rattle.gl_book.specs.Entry.{Answered}
use Rattle.gl_book.specs.Phases.{JobSeen, AreAnswered, CanBeAnswered, ends_phase, jobs_of, StaysIn}
use Rattle.book_state.specs.States.{is_job}
use Rattle.gl_book.specs.Walk.{refused_cause, state_after}
use Rattle.gl_book.specs.declared.answer.Answer.{Answer}
use Rattle.gl_book.specs.declared.answer.Answer.TheVariants as answer
use Rattle.gl_book.specs.declared.answer.Cause.TheVariants as cause
use Rattle.gl_book.specs.declared.progress.Progress.{Progress}
use Rattle.gl_book.proofs.Looks.{before_event}
use Rattle.gl_book.proofs.Told.{grows_nothing}

-- ---- answers that memory alone does not hinder
abbrev memory_answer : EventSeen → Answer
memory_answer (Theorem thm) = answer.Decided verdict.Memory
memory_answer (Cases thm) = answer.ByCases (whole.Cover verdict.Memory)
memory_answer e = answer.Undecided cause.Memory

memory_is_other : cause.Memory ≡ cause.Size → ⊥
memory_is_other e = cc

memory_proper : (bounds : Bounds) (w : WorldSeen) (memoized : List ℕ) (definitions : List Definition) (e : EventSeen) → is_job e ≡ true → IsOfDefinitions definitions e → IsProperAnswer bounds w memoized e (memory_answer e)
memory_proper bounds w memoized definitions (Value t) h k = tt
memory_proper bounds w memoized definitions (Assert t) h k = record { has = tt; no_size = memory_is_other }
memory_proper bounds w memoized definitions (Theorem thm) h k = tt
memory_proper bounds w memoized definitions (Cases thm) h k = memory_decides bounds w thm k.parts
memory_proper bounds w memoized definitions Nothing h k = absurd cc
memory_proper bounds w memoized definitions (Redundant n) h k = absurd cc
memory_proper bounds w memoized definitions (Defun d) h k = absurd cc
memory_proper bounds w memoized definitions (Defconst n t) h k = absurd cc
memory_proper bounds w memoized definitions (Memoize f) h k = absurd cc
memory_proper bounds w memoized definitions (Unmemoize f) h k = absurd cc
memory_proper bounds w memoized definitions (SetMode m) h k = absurd cc
memory_proper bounds w memoized definitions (Clique ds) h k = absurd cc
memory_proper bounds w memoized definitions (RedundantClique ns) h k = absurd cc

pub some_answers : (bounds : Bounds) (w : WorldSeen) (definitions : List Definition) (js : List JobSeen) → All (CanBeAnswered definitions) js → (given : List Answer) × AreAnswered bounds w js given
some_answers bounds w definitions [] h = ([], tt)
some_answers bounds w definitions (j ∷ js) h =
    let rest = some_answers bounds w definitions js (All-tail (CanBeAnswered definitions) j js h) in
    let first = All-head (CanBeAnswered definitions) j js h in
    (memory_answer j.event ∷ rest.0, (memory_proper bounds w j.memoized definitions j.event first.job first.can.event, rest.1))

pub nothing_ended : (names : List (List ℕ)) (bounds : Bounds) (last : Bool) (old : Progress) (written : Option (List ℕ)) (stalls : List StallSeen) → All (CanBeAnswered old.state.world.definitions) (jobs_of old.waiting) → EndsPhaseByFront names bounds last old written stalls written stalls
nothing_ended names bounds last old written stalls h =
    let a = some_answers bounds old.state.world old.state.world.definitions (jobs_of old.waiting) h in
    record { answers = a.0; proper = a.1; writes = (0, grows_nothing written); keeps = (0, sym (append-nil stalls)) }

-- ---- events
pub job_state : (s : BookState) (form : Object) (e : EventSeen) (a : Answer) → ends_phase e ≡ false → state_after s form e a ≡ next_state s form e nil
job_state s form Nothing a h = refl
job_state s form (Redundant n) a h = refl
job_state s form (Defun d) a h = absurd cc
job_state s form (Defconst n t) a h = absurd cc
job_state s form (Value t) a h = refl
job_state s form (Assert t) a h = refl
job_state s form (Memoize f) a h = refl
job_state s form (Unmemoize f) a h = refl
job_state s form (SetMode m) a h = refl
job_state s form (Theorem thm) a h = refl
job_state s form (Cases thm) a h = refl
job_state s form (Clique ds) a h = absurd cc
job_state s form (RedundantClique ns) a h = refl

pub job_valued : (e : EventSeen) (a : Answer) → ends_phase e ≡ false → refused_cause e a ≡ None
job_valued Nothing a h = refl
job_valued (Redundant n) a h = refl
job_valued (Defun d) a h = absurd cc
job_valued (Defconst n t) a h = absurd cc
job_valued (Value t) a h = refl
job_valued (Assert t) a h = refl
job_valued (Memoize f) a h = refl
job_valued (Unmemoize f) a h = refl
job_valued (SetMode m) a h = refl
job_valued (Theorem thm) a h = refl
job_valued (Cases thm) a h = refl
job_valued (Clique ds) a h = absurd cc
job_valued (RedundantClique ns) a h = refl

pub job_ends_none : (e : EventSeen) → is_job e ≡ true → ends_phase e ≡ false
job_ends_none Nothing h = absurd cc
job_ends_none (Redundant n) h = absurd cc
job_ends_none (Defun d) h = absurd cc
job_ends_none (Defconst n t) h = absurd cc
job_ends_none (Value t) h = refl
job_ends_none (Assert t) h = refl
job_ends_none (Memoize f) h = absurd cc
job_ends_none (Unmemoize f) h = absurd cc
job_ends_none (SetMode m) h = absurd cc
job_ends_none (Theorem thm) h = refl
job_ends_none (Cases thm) h = refl
job_ends_none (Clique ds) h = absurd cc
job_ends_none (RedundantClique ns) h = absurd cc

-- answers in the world behind an event that ends no phase are proper in the world before it
pub answers_before : (bounds : Bounds) (s : BookState) (form : Object) (e : EventSeen) (js : List JobSeen) (given : List Answer) → ends_phase e ≡ false → AreAnswered bounds (next_state s form e nil).world js given → AreAnswered bounds s.world js given
answers_before bounds s form Nothing js given h k = k
answers_before bounds s form (Redundant n) js given h k = k
answers_before bounds s form (Defun d) js given h k = absurd cc
answers_before bounds s form (Defconst n t) js given h k = absurd cc
answers_before bounds s form (Value t) js given h k = k
answers_before bounds s form (Assert t) js given h k = k
answers_before bounds s form (Memoize f) js given h k = k
answers_before bounds s form (Unmemoize f) js given h k = k
answers_before bounds s form (SetMode m) js given h k = k
answers_before bounds s form (Theorem thm) js given h k = before_event bounds s.world (s.world.events ++ (thm.name, form) ∷ []) js given k
answers_before bounds s form (Cases thm) js given h k = before_event bounds s.world (s.world.events ++ (thm.cover.name, form) ∷ []) js given k
answers_before bounds s form (Clique ds) js given h k = absurd cc
answers_before bounds s form (RedundantClique ns) js given h k = k

pub same_definitions : (s : BookState) (form : Object) (e : EventSeen) → ends_phase e ≡ false → (next_state s form e nil).world.definitions ≡ s.world.definitions
same_definitions s form Nothing h = refl
same_definitions s form (Redundant n) h = refl
same_definitions s form (Defun d) h = absurd cc
same_definitions s form (Defconst n t) h = absurd cc
same_definitions s form (Value t) h = refl
same_definitions s form (Assert t) h = refl
same_definitions s form (Memoize f) h = refl
same_definitions s form (Unmemoize f) h = refl
same_definitions s form (SetMode m) h = refl
same_definitions s form (Theorem thm) h = refl
same_definitions s form (Cases thm) h = refl
same_definitions s form (Clique ds) h = absurd cc
same_definitions s form (RedundantClique ns) h = refl

done_quiet : (e : EventSeen) (a : Answer) (bounds : Bounds) (w : WorldSeen) (memoized : List ℕ) → IsProperAnswer bounds w memoized Nothing a → IsQuiet (Answered e a)
done_quiet e answer.Done bounds w memoized p = tt
done_quiet e (answer.Function t) bounds w memoized p = absurd p
done_quiet e (answer.Value x) bounds w memoized p = absurd p
done_quiet e (answer.Truth b) bounds w memoized p = absurd p
done_quiet e (answer.Undecided c) bounds w memoized p = absurd p
done_quiet e (answer.Decided v) bounds w memoized p = absurd p
done_quiet e (answer.ByCases v) bounds w memoized p = absurd p

named_quiet : (e : EventSeen) (f : ℕ) (a : Answer) (bounds : Bounds) (w : WorldSeen) (memoized : List ℕ) → IsProperAnswer bounds w memoized (Memoize f) a → IsQuiet (Answered e a)
named_quiet e f (answer.Function t) bounds w memoized p = tt
named_quiet e f answer.Done bounds w memoized p = absurd p
named_quiet e f (answer.Value x) bounds w memoized p = absurd p
named_quiet e f (answer.Truth b) bounds w memoized p = absurd p
named_quiet e f (answer.Undecided c) bounds w memoized p = absurd p
named_quiet e f (answer.Decided v) bounds w memoized p = absurd p
named_quiet e f (answer.ByCases v) bounds w memoized p = absurd p

pub answer_quiet : (bounds : Bounds) (w : WorldSeen) (memoized : List ℕ) (e : EventSeen) (a : Answer) → is_job e ≡ false → ends_phase e ≡ false → IsProperAnswer bounds w memoized e a → IsQuiet (Answered e a)
answer_quiet bounds w memoized Nothing a h k p = done_quiet Nothing a bounds w memoized p
answer_quiet bounds w memoized (Redundant n) a h k p = done_quiet (Redundant n) a bounds w memoized p
answer_quiet bounds w memoized (Defun d) a h k p = absurd cc
answer_quiet bounds w memoized (Defconst n t) a h k p = absurd cc
answer_quiet bounds w memoized (Value t) a h k p = absurd cc
answer_quiet bounds w memoized (Assert t) a h k p = absurd cc
answer_quiet bounds w memoized (Memoize f) a h k p = named_quiet (Memoize f) f a bounds w memoized p
answer_quiet bounds w memoized (Unmemoize f) a h k p = named_quiet (Unmemoize f) f a bounds w memoized p
answer_quiet bounds w memoized (SetMode m) a h k p = done_quiet (SetMode m) a bounds w memoized p
answer_quiet bounds w memoized (Theorem thm) a h k p = absurd cc
answer_quiet bounds w memoized (Cases thm) a h k p = absurd cc
answer_quiet bounds w memoized (Clique ds) a h k p = absurd cc
answer_quiet bounds w memoized (RedundantClique ns) a h k p = done_quiet (RedundantClique ns) a bounds w memoized p

-- a job with more lines behind it can be answered as before
pub longer_ready : {definitions : List Definition} (js : List JobSeen) (j : JobSeen) (lines : List (List ℕ)) → All (CanBeAnswered definitions) (js ++ j ∷ []) → All (CanBeAnswered definitions) (js ++ record j { behind = j.behind ++ lines } ∷ [])
longer_ready {definitions} js j lines h =
    let can = All-get_last js j h in
    All-push (CanBeAnswered definitions) js (record j { behind = j.behind ++ lines }) (All-front js j h) (record { job = can.job; can = can.can })
  where
    All-get_last : (js : List JobSeen) (j : JobSeen) → All (CanBeAnswered definitions) (js ++ j ∷ []) → CanBeAnswered definitions j
    All-get_last [] j h = All-head (CanBeAnswered definitions) j [] h
    All-get_last (k ∷ js) j h = All-get_last js j (All-tail (CanBeAnswered definitions) k (js ++ j ∷ []) h)

    All-front : (js : List JobSeen) (j : JobSeen) → All (CanBeAnswered definitions) (js ++ j ∷ []) → All (CanBeAnswered definitions) js
    All-front [] j h = All-nil (CanBeAnswered definitions)
    All-front (k ∷ js) j h = All-cons (CanBeAnswered definitions) k js (All-head (CanBeAnswered definitions) k (js ++ j ∷ []) h) (All-front js j (All-tail (CanBeAnswered definitions) k (js ++ j ∷ []) h))

-- what stays in its phase and is no job comes behind one
pub stays_behind : (js : List JobSeen) (e : EventSeen) → StaysIn js e → is_job e ≡ false → (ends_phase e ≡ false) × (0 < length js)
stays_behind js e (inl job) other = absurd cc
stays_behind js e (inr behind) other = behind

pub job_keeps_functions : (s : BookState) (form : Object) (e : EventSeen) → is_job e ≡ true → (next_state s form e nil).memoized ≡ s.memoized
job_keeps_functions s form (Value t) h = refl
job_keeps_functions s form (Assert t) h = refl
job_keeps_functions s form (Theorem thm) h = refl
job_keeps_functions s form (Cases thm) h = refl
job_keeps_functions s form Nothing h = absurd cc
job_keeps_functions s form (Redundant n) h = absurd cc
job_keeps_functions s form (Defun d) h = absurd cc
job_keeps_functions s form (Defconst n t) h = absurd cc
job_keeps_functions s form (Memoize f) h = absurd cc
job_keeps_functions s form (Unmemoize f) h = absurd cc
job_keeps_functions s form (SetMode m) h = absurd cc
job_keeps_functions s form (Clique ds) h = absurd cc
job_keeps_functions s form (RedundantClique ns) h = absurd cc
