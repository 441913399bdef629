-- What a proper answer looks at: the definitions and the constants of its world, and the limits.
use Rattle.std.proofs.Common.{ℕ, List, [], ◌∷◌}
use Rattle.gl_logic.specs.Object.{Object}
use Rattle.gl_logic.specs.Exp.{Exp}
use Rattle.gl_logic.specs.WorldSeen.{WorldSeen}
use Rattle.event_world.specs.EventSeen.{TheoremSeen, EventSeen, Nothing, Redundant, Defun, Defconst, Value, Assert, Memoize, Unmemoize, SetMode, Theorem, Cases, Clique, RedundantClique}
use Rattle.gl_decide.specs.Bounds.{Bounds}
use Rattle.gl_decide.specs.Causes.{IsOutOfSteps, IsOutOfCells}
use Rattle.gl_decide.specs.Stalls.{StallSeen, IsStallOf}
use Rattle.shape_spec.specs.TheoremSeen.{TheoremSeen}
use Rattle.gl_decide.specs.Verdicts.{IsProperVerdict}
use Rattle.gl_decide.specs.declared.stall.StallCause.{StallCause}
use Rattle.gl_decide.specs.declared.verdict.Verdict.{Verdict}
use Rattle.gl_decide.specs.declared.verdict.Verdict.TheVariants as verdict
use Rattle.gl_cases.specs.Parts.{ParamSeen}
use Rattle.gl_book.specs.Cases.{AreProperVerdicts}
use Rattle.gl_book.specs.Answers.{IsValue, HasCause, IsProperValue, IsProperTruth, IsDecided, IsSettled, IsFunctionNamed, IsProperAnswer}
use Rattle.gl_book.specs.Phases.{JobSeen, AreAnswered}
use Rattle.gl_book.specs.declared.answer.Cause.{Cause}
use Rattle.gl_book.specs.declared.answer.Cause.TheVariants as cause
use Rattle.gl_book.specs.declared.answer.Answer.{Answer}
use Rattle.gl_book.specs.declared.answer.Answer.TheVariants as answer

-- the same definitions and constants with other events
module _ (bounds : Bounds) (w : WorldSeen) (cliques : List ℕ) (events : List (ℕ × Object)) where
  abbrev later : WorldSeen
  later = record w { cliques = cliques; events = events }

  value_looks : (t : Exp) (x : Object) → IsValue w t x → IsValue later t x
  value_looks t x h = record { has = h.has; narrow = h.narrow }

  steps_look : (memoized : List ℕ) (env : List (ℕ × Object)) (t : Exp) → IsOutOfSteps w memoized bounds.steps env t → IsOutOfSteps later memoized bounds.steps env t
  steps_look memoized env t h = record { depth = h.depth; value = h.value; has = h.has; more = h.more }

  cells_look : (env : List (ℕ × Object)) (t : Exp) → IsOutOfCells w bounds.cells env t → IsOutOfCells later bounds.cells env t
  cells_look env t h = record { depth = h.depth; value = h.value; has = h.has; more = h.more }

  cause_looks : (memoized : List ℕ) (t : Exp) (c : Cause) → HasCause bounds w memoized t c → HasCause bounds later memoized t c
  cause_looks memoized t cause.Width h = h
  cause_looks memoized t cause.Steps h = steps_look memoized [] t h
  cause_looks memoized t cause.Cells h = cells_look [] t h
  cause_looks memoized t cause.Size h = (h.0, value_looks t h.0 h.1, h.2)
  cause_looks memoized t cause.Memory h = tt

  -- ---- values and truths
  value_answer_looks : (memoized : List ℕ) (t : Exp) (a : Answer) → IsProperValue bounds w memoized t a → IsProperValue bounds later memoized t a
  value_answer_looks memoized t (answer.Value x) h = record { is = value_looks t x h.is; small = h.small }
  value_answer_looks memoized t (answer.Undecided c) h = cause_looks memoized t c h
  value_answer_looks memoized t answer.Done h = absurd h
  value_answer_looks memoized t (answer.Function f) h = absurd h
  value_answer_looks memoized t (answer.Truth b) h = absurd h
  value_answer_looks memoized t (answer.Decided v) h = absurd h
  value_answer_looks memoized t (answer.ByCases v) h = absurd h

  truth_answer_looks : (memoized : List ℕ) (t : Exp) (a : Answer) → IsProperTruth bounds w memoized t a → IsProperTruth bounds later memoized t a
  truth_answer_looks memoized t (answer.Truth b) h = (h.0, value_looks t h.0 h.1, h.2)
  truth_answer_looks memoized t (answer.Undecided c) h = record { has = cause_looks memoized t c h.has; no_size = h.no_size }
  truth_answer_looks memoized t answer.Done h = absurd h
  truth_answer_looks memoized t (answer.Function f) h = absurd h
  truth_answer_looks memoized t (answer.Value x) h = absurd h
  truth_answer_looks memoized t (answer.Decided v) h = absurd h
  truth_answer_looks memoized t (answer.ByCases v) h = absurd h

  -- ---- verdicts
  stall_looks : (thm : TheoremSeen) (c : StallCause) (s : StallSeen) → IsStallOf w thm c s → IsStallOf later thm c s
  stall_looks thm c s h = record { cause = h.cause; theorem = h.theorem; definitions = h.definitions; constants = h.constants }

  verdict_looks : (thm : TheoremSeen) (v : Verdict) → IsProperVerdict w bounds thm v → IsProperVerdict later bounds thm v
  verdict_looks thm verdict.Proved h = h
  verdict_looks thm verdict.Vacuous h = h
  verdict_looks thm (verdict.Refuted env) h = h
  verdict_looks thm (verdict.Uncovered u) h = h
  verdict_looks thm (verdict.Clock p env) h = h
  verdict_looks thm (verdict.Width p env) h = h
  verdict_looks thm (verdict.Steps p env) h = (h.0, h.1, steps_look thm.memoized env _ h.2)
  verdict_looks thm (verdict.Cells p env) h = (h.0, h.1, cells_look env _ h.2)
  verdict_looks thm (verdict.Nodes s) h = (h.0, h.1, stall_looks thm _ s h.2)
  verdict_looks thm (verdict.Clauses s) h = (h.0, h.1, h.2, stall_looks thm _ s h.3)
  verdict_looks thm verdict.Memory h = tt

  decided_looks : (thm : TheoremSeen) (a : Answer) → IsDecided bounds w thm a → IsDecided bounds later thm a
  decided_looks thm (answer.Decided v) h = verdict_looks thm v h
  decided_looks thm answer.Done h = absurd h
  decided_looks thm (answer.Function f) h = absurd h
  decided_looks thm (answer.Value x) h = absurd h
  decided_looks thm (answer.Truth b) h = absurd h
  decided_looks thm (answer.Undecided c) h = absurd h
  decided_looks thm (answer.ByCases v) h = absurd h

  verdicts_look : (thms : List TheoremSeen) (vs : List Verdict) → AreProperVerdicts bounds w thms vs → AreProperVerdicts bounds later thms vs
  verdicts_look [] [] h = tt
  verdicts_look (thm ∷ thms) (v ∷ vs) h = (verdict_looks thm v h.0, verdicts_look thms vs h.1)
  verdicts_look [] (v ∷ vs) h = absurd h
  verdicts_look (thm ∷ thms) [] h = absurd h

  settled_looks : (thm : ParamSeen) (a : Answer) → IsSettled bounds w thm a → IsSettled bounds later thm a
  settled_looks thm (answer.ByCases v) h = record {
    cover = h.cover;
    cases = h.cases;
    covered = verdict_looks thm.cover h.cover h.covered;
    each = verdicts_look thm.cases h.cases h.each;
    comes = h.comes;
    proper = h.proper;
  }
  settled_looks thm answer.Done h = absurd h
  settled_looks thm (answer.Function f) h = absurd h
  settled_looks thm (answer.Value x) h = absurd h
  settled_looks thm (answer.Truth b) h = absurd h
  settled_looks thm (answer.Undecided c) h = absurd h
  settled_looks thm (answer.Decided v) h = absurd h

  -- ---- the whole
  named_looks : (f : ℕ) (a : Answer) → IsFunctionNamed w f a → IsFunctionNamed later f a
  named_looks f (answer.Function name) h = h
  named_looks f answer.Done h = absurd h
  named_looks f (answer.Value x) h = absurd h
  named_looks f (answer.Truth b) h = absurd h
  named_looks f (answer.Undecided c) h = absurd h
  named_looks f (answer.Decided v) h = absurd h
  named_looks f (answer.ByCases v) h = absurd h

  answer_looks : (memoized : List ℕ) (e : EventSeen) (a : Answer) → IsProperAnswer bounds w memoized e a → IsProperAnswer bounds later memoized e a
  answer_looks memoized (Value t) a h = value_answer_looks memoized t a h
  answer_looks memoized (Defconst name t) a h = value_answer_looks memoized t a h
  answer_looks memoized (Assert t) a h = truth_answer_looks memoized t a h
  answer_looks memoized (Memoize f) a h = named_looks f a h
  answer_looks memoized (Unmemoize f) a h = named_looks f a h
  answer_looks memoized (Theorem thm) a h = decided_looks thm a h
  answer_looks memoized (Cases thm) a h = settled_looks thm a h
  answer_looks memoized Nothing a h = h
  answer_looks memoized (Redundant name) a h = h
  answer_looks memoized (Defun d) a h = h
  answer_looks memoized (SetMode m) a h = h
  answer_looks memoized (Clique ds) a h = h
  answer_looks memoized (RedundantClique names) a h = h

  pub answers_look : (jobs : List JobSeen) (given : List Answer) → AreAnswered bounds w jobs given → AreAnswered bounds later jobs given
  answers_look [] [] h = tt
  answers_look (j ∷ js) (a ∷ given) h = (answer_looks j.memoized j.event a h.0, answers_look js given h.1)
  answers_look [] (a ∷ given) h = absurd h
  answers_look (j ∷ js) [] h = absurd h

-- an answer that is proper for the world behind a noted event is proper for the world before it
pub before_event : (bounds : Bounds) (w : WorldSeen) (events : List (ℕ × Object)) (jobs : List JobSeen) (given : List Answer) → AreAnswered bounds (record w { events = events }) jobs given → AreAnswered bounds w jobs given
before_event bounds w events jobs given h = answers_look bounds (record w { events = events }) w.cliques w.events jobs given h
