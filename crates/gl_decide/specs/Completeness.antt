-- When a theorem is decided within the limits of a run.
use Rattle.std.specs.Prelude.{ℕ, List}
use Rattle.gl_logic.specs.Object.{Object}
use Rattle.gl_logic.specs.WorldSeen.{WorldSeen}
use Rattle.shape_spec.specs.declared.theorem.Part.{Part}
use Rattle.gl_decide.specs.Bounds.{Bounds}
use Rattle.gl_decide.specs.Causes.{IsOutOfClock, IsOutOfWidth, IsOutOfSteps, IsOutOfCells}
use Rattle.shape_spec.specs.TheoremSeen.{TheoremSeen}
use Rattle.gl_decide.specs.TheoremAt.{term_at, clock_at}
use Rattle.gl_decide.specs.Verdicts.{IsInputFor, IsWider}
use Rattle.gl_decide.specs.declared.verdict.Verdict.{Verdict}
use Rattle.gl_decide.specs.declared.verdict.Verdict.TheVariants.{Proved, Vacuous, Refuted, Nodes, Clauses, Memory}

-- on each input of a part, the part stays within its clock, 128 bits, the steps and the cells
pub record StaysWithin (w : WorldSeen) (bounds : Bounds) (thm : TheoremSeen) : Type 0 where
  pub clock : (part : Part) (env : List (ℕ × Object)) → IsInputFor w thm part env → IsOutOfClock w (clock_at thm part) env (term_at thm part) → ⊥
  pub width : (part : Part) (env : List (ℕ × Object)) → IsInputFor w thm part env → IsOutOfWidth w env (term_at thm part) → ⊥
  pub steps : (part : Part) (env : List (ℕ × Object)) → IsInputFor w thm part env → IsOutOfSteps w thm.memoized bounds.steps env (term_at thm part) → ⊥
  pub cells : (part : Part) (env : List (ℕ × Object)) → IsInputFor w thm part env → IsOutOfCells w bounds.cells env (term_at thm part) → ⊥

-- it is proved, vacuous or refuted, or memory was refused; nodes and clauses run out only where it has more indices than are scanned
abbrev pub IsDecided : Bounds → TheoremSeen → Verdict → Type 0
IsDecided bounds thm Proved = Unit {0}
IsDecided bounds thm Vacuous = Unit {0}
IsDecided bounds thm (Refuted env) = Unit {0}
IsDecided bounds thm (Nodes s) = IsWider bounds thm
IsDecided bounds thm (Clauses s) = IsWider bounds thm
IsDecided bounds thm Memory = Unit {0}
IsDecided bounds thm _ = ⊥
