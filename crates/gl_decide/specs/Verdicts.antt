-- When a verdict on a theorem is proper.
use Rattle.std.specs.Prelude.{◌≡◌, ℕ, ◌<◌, List, Some, None}
use Rattle.gl_logic.specs.Object.{Object, nil}
use Rattle.gl_logic.specs.Evaluate.{HasValue}
use Rattle.gl_logic.specs.WorldSeen.{WorldSeen}
use Rattle.shape_spec.specs.Indices.{width_of}
use Rattle.shape_spec.specs.Theorems.{IsMet, IsInput, Holds}
use Rattle.shape_spec.specs.declared.theorem.Part.{Part}
use Rattle.shape_spec.specs.declared.theorem.Part.TheVariants.{Hyp}
use Rattle.shape_spec.specs.declared.theorem.Mode.TheVariants as mode
use Rattle.coverage.specs.Covered.{first_uncovered}
use Rattle.gl_decide.specs.Bounds.{Bounds}
use Rattle.gl_decide.specs.Causes.{IsOutOfClock, IsOutOfWidth, IsOutOfSteps, IsOutOfCells}
use Rattle.gl_decide.specs.Stalls.{IsStallOf}
use Rattle.shape_spec.specs.TheoremSeen.{TheoremSeen}
use Rattle.gl_decide.specs.TheoremAt.{term_at, clock_at, input_at}
use Rattle.gl_decide.specs.declared.stall.StallCause.TheVariants as why
use Rattle.gl_decide.specs.declared.verdict.Verdict.{Verdict}
use Rattle.gl_decide.specs.declared.verdict.Verdict.TheVariants.{Proved, Vacuous, Refuted, Uncovered, Clock, Width, Steps, Cells, Nodes, Clauses, Memory}

abbrev pub IsCovered : TheoremSeen → Type 0
IsCovered thm = first_uncovered thm.hyp thm.concl thm.bindings ≡ None

-- it has more indices than are scanned
abbrev pub IsWider : Bounds → TheoremSeen → Type 0
IsWider bounds thm = bounds.enum_bits < width_of thm.bindings

-- an input of a part: for the conclusion the hypothesis is met on it
abbrev pub IsInputFor : WorldSeen → TheoremSeen → Part → List (ℕ × Object) → Type 0
IsInputFor w thm part env = IsInput w.definitions thm.hyp thm.bindings part env

-- an input that meets the hypothesis
abbrev pub MeetsHypothesis : WorldSeen → TheoremSeen → List (ℕ × Object) → Type 0
MeetsHypothesis w thm env = IsInputFor w thm Hyp env × IsMet w.definitions thm.hyp env

abbrev pub IsProperVerdict : WorldSeen → Bounds → TheoremSeen → Verdict → Type 0
-- the conclusion is met wherever the hypothesis is, and some input meets the hypothesis
IsProperVerdict w bounds thm Proved = IsCovered thm × Holds w.definitions thm.hyp thm.concl × ((env : List (ℕ × Object)) × MeetsHypothesis w thm env)
-- nothing meets the hypothesis
IsProperVerdict w bounds thm Vacuous = IsCovered thm × ((env : List (ℕ × Object)) → IsMet w.definitions thm.hyp env → ⊥)
-- an input that meets the hypothesis and makes the conclusion NIL
IsProperVerdict w bounds thm (Refuted env) = IsCovered thm × MeetsHypothesis w thm env × HasValue w.definitions env thm.concl nil
-- the first variable that is not covered
IsProperVerdict w bounds thm (Uncovered v) = first_uncovered thm.hyp thm.concl thm.bindings ≡ Some v.number
-- an input of the part that has the cause there
IsProperVerdict w bounds thm (Clock part env) = IsCovered thm × IsInputFor w thm part env × IsOutOfClock w (clock_at thm part) env (term_at thm part)
IsProperVerdict w bounds thm (Width part env) = IsCovered thm × IsInputFor w thm part env × IsOutOfWidth w env (term_at thm part)
IsProperVerdict w bounds thm (Steps part env) = IsCovered thm × IsInputFor w thm part env × IsOutOfSteps w thm.memoized bounds.steps env (term_at thm part)
IsProperVerdict w bounds thm (Cells part env) = IsCovered thm × IsInputFor w thm part env × IsOutOfCells w bounds.cells env (term_at thm part)
-- more indices than are scanned, and the stall of this decision, with the limit. Only a search runs out of clauses
IsProperVerdict w bounds thm (Nodes s) = IsCovered thm × IsWider bounds thm × IsStallOf w thm (why.Nodes bounds.nodes) s
IsProperVerdict w bounds thm (Clauses s) = IsCovered thm × (thm.mode ≡ mode.Sat) × IsWider bounds thm × IsStallOf w thm (why.Clauses bounds.clauses) s
-- memory is free
IsProperVerdict w bounds thm Memory = Unit {0}

-- ---- inputs that refute
abbrev pub Refutes : WorldSeen → TheoremSeen → List (ℕ × Object) → Type 0
Refutes w thm env = IsMet w.definitions thm.hyp env × HasValue w.definitions env thm.concl nil

-- the least number of an assignment whose input meets the hypothesis and makes the conclusion NIL
abbrev pub IsLeastRefuting : WorldSeen → TheoremSeen → ℕ → Type 0
IsLeastRefuting w thm n = Refutes w thm (input_at thm n) × ((k : ℕ) → k < n → Refutes w thm (input_at thm k) → ⊥)
