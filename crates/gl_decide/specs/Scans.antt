-- When the answer of a scan is proper.
use Rattle.std.specs.Prelude.{◌≡◌, ◌↔◌, ℕ, ◌<◌, ◌≤◌, ◌^◌, List, true}
use Rattle.gl_logic.specs.Object.{Object}
use Rattle.gl_logic.specs.WorldSeen.{WorldSeen}
use Rattle.shape_spec.specs.Indices.{width_of}
use Rattle.shape_spec.specs.Theorems.{IsMet}
use Rattle.shape_spec.specs.declared.theorem.Part.{Part}
use Rattle.lisp_eval.specs.declared.fault.EvalFault.{EvalFault}
use Rattle.lisp_eval.specs.declared.fault.EvalFault.TheVariants as fault
use Rattle.gl_decide.specs.Bounds.{Bounds}
use Rattle.gl_decide.specs.Causes.{IsOutOfWidth, IsOutOfSteps, IsOutOfCells}
use Rattle.shape_spec.specs.TheoremSeen.{TheoremSeen}
use Rattle.gl_decide.specs.TheoremAt.{term_at, input_at}
use Rattle.gl_decide.specs.Verdicts.{IsInputFor, Refutes}
use Rattle.gl_decide.specs.declared.scanned.Scan.{Scan}
use Rattle.gl_decide.specs.declared.scanned.Scan.TheVariants as scan

-- a fault's cause on an environment, by the limits of steps and cells. Want of memory stops no input
abbrev pub HasCause : WorldSeen → ℕ → ℕ → TheoremSeen → Part → List (ℕ × Object) → EvalFault → Type 0
HasCause w steps cells thm part env fault.Width = IsOutOfWidth w env (term_at thm part)
HasCause w steps cells thm part env fault.Steps = IsOutOfSteps w thm.memoized steps env (term_at thm part)
HasCause w steps cells thm part env fault.Cells = IsOutOfCells w cells env (term_at thm part)
HasCause w steps cells thm part env fault.Memory = ⊥

-- no number from the first up to but not including the end refutes
abbrev pub NoneRefutes : WorldSeen → TheoremSeen → ℕ → ℕ → Type 0
NoneRefutes w thm first end = (n : ℕ) → first ≤ n → n < end → Refutes w thm (input_at thm n) → ⊥

-- some number among them meets the hypothesis
abbrev pub SomeMeets : WorldSeen → TheoremSeen → ℕ → ℕ → Type 0
SomeMeets w thm first end = (n : ℕ) × (first ≤ n) × (n < end) × IsMet w.definitions thm.hyp (input_at thm n)

-- what is found of the numbers from the first up to but not including the end
abbrev pub IsProperAmong : WorldSeen → ℕ → ℕ → TheoremSeen → ℕ → ℕ → Scan → Type 0
-- none refutes, and whether some input meets the hypothesis
IsProperAmong w steps cells thm first end (scan.Clean met) = NoneRefutes w thm first end × ((met ≡ true) ↔ SomeMeets w thm first end)
-- the least number that refutes
IsProperAmong w steps cells thm first end (scan.Refutes k) = (first ≤ k) × (k < end) × Refutes w thm (input_at thm k) × NoneRefutes w thm first k
-- a number whose input is one of the part and has the cause there, where no smaller one refutes
IsProperAmong w steps cells thm first end (scan.Stopped k part f) = (first ≤ k) × (k < end) × IsInputFor w thm part (input_at thm k) × HasCause w steps cells thm part (input_at thm k) f × NoneRefutes w thm first k
IsProperAmong w steps cells thm first end scan.Memory = Unit {0}

abbrev pub IsProperScan : WorldSeen → Bounds → TheoremSeen → Scan → Type 0
IsProperScan w bounds thm s = IsProperAmong w bounds.steps bounds.cells thm 0 (2 ^ width_of thm.bindings) s
