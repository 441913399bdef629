-- When a symbolic decision of a theorem is proper.
use Rattle.std.specs.Prelude.{◌≡◌, ℕ, Bool, None, IsTrue}
use Rattle.std.specs.List.{All, Contains}
use Rattle.bfr_store.specs.declared.meaning.Meaning.{Ghosts}
use Rattle.gl_logic.specs.Assignments.{value_at}
use Rattle.gl_logic.specs.CellCounts.{constant_cells}
use Rattle.gl_logic.specs.Object.{nil}
use Rattle.gl_logic.specs.Evaluate.{evaluate, HasValue}
use Rattle.gl_logic.specs.Wide.{IsWide}
use Rattle.gl_logic.specs.WorldSeen.{WorldSeen}
use Rattle.lisp_eval.specs.Answers.{IsDear}
use Rattle.lisp_eval.specs.Machines.{MachineSeen, Fits}
use Rattle.shape_spec.specs.declared.theorem.Part.{Part}
use Rattle.shape_spec.specs.declared.theorem.Part.TheVariants.{Hyp, Concl}
use Rattle.shape_spec.specs.declared.theorem.Thm.{Thm}
use Rattle.sym_objects.specs.Seen.{SobsSeen, IsFull}
use Rattle.sym_prims.specs.declared.fault.SymFault.{SymFault}
use Rattle.sym_prims.specs.declared.fault.SymFault.TheVariants as prim
use Rattle.gl_interp.specs.declared.fault.GlFault.{GlFault}
use Rattle.gl_interp.specs.declared.fault.GlFault.TheVariants as fault
use Rattle.gl_symbolic.specs.Causes.{IsOutOfCells}
use Rattle.gl_symbolic.specs.Theorems.{term_at, clock_at, input_under, Meets, IsOfPart}
use Rattle.gl_symbolic.specs.declared.decision.Decision.{Decision}
use Rattle.gl_symbolic.specs.declared.decision.Decision.TheVariants as decision

-- a machine that fits the world, with the theorem's memoized functions, and holds cells of the world's constants alone
pub record IsReady (w : WorldSeen) (thm : Thm) (m : MachineSeen) : Type 0 where
  pub fits : Fits w m
  pub functions : m.functions ≡ thm.memoized
  pub cells : All (Contains (constant_cells w)) m.arena.objects

-- what a decision says, by the limits of steps and cells
abbrev pub IsProper : WorldSeen → ℕ → ℕ → Thm → Decision → Type 0
-- wherever the hypothesis is met the conclusion is, and some input meets the hypothesis
IsProper w steps cells thm decision.Proved = ((a : ℕ → Bool) → Meets w thm Hyp a → Meets w thm Concl a) × ((a : ℕ → Bool) × Meets w thm Hyp a)
-- no input meets the hypothesis
IsProper w steps cells thm decision.Vacuous = (a : ℕ → Bool) → Meets w thm Hyp a → ⊥
-- the assignment's input meets the hypothesis and makes the conclusion NIL
IsProper w steps cells thm (decision.Refuted a) = IsOfPart w thm Concl a × HasValue w.definitions (input_under thm (value_at a)) (term_at thm Concl) nil
-- the assignment's input is one for the part, and has the cause there
IsProper w steps cells thm (decision.Clock part a) = IsOfPart w thm part a × (evaluate w.definitions (clock_at thm part) (input_under thm (value_at a)) (term_at thm part) ≡ None)
IsProper w steps cells thm (decision.Width part a) = IsOfPart w thm part a × IsWide w.definitions (input_under thm (value_at a)) (term_at thm part)
IsProper w steps cells thm (decision.Steps part a) = IsOfPart w thm part a × IsDear w thm.memoized (input_under thm (value_at a)) (term_at thm part) steps
IsProper w steps cells thm (decision.Cells part a) = IsOfPart w thm part a × IsOutOfCells w cells (input_under thm (value_at a)) (term_at thm part)
-- nothing is said of the theorem
IsProper w steps cells thm decision.Full = Unit {0}
IsProper w steps cells thm decision.Spent = Unit {0}
IsProper w steps cells thm decision.Memory = Unit {0}

-- what is left where nothing is said: Full leaves a count at its limit, Spent a store that gave up its last decision; want of
-- memory is free
abbrev pub HasRunOut : {B : Type 0} → Ghosts B → SobsSeen B → Decision → Type 0
HasRunOut g s decision.Full = IsFull g s
HasRunOut g s decision.Spent = IsTrue (g.spent s.store)
HasRunOut g s _ = Unit {0}

-- nothing is said of the theorem
abbrev pub IsGivenUpOn : Decision → Type 0
IsGivenUpOn decision.Full = Unit {0}
IsGivenUpOn decision.Spent = Unit {0}
IsGivenUpOn decision.Memory = Unit {0}
IsGivenUpOn _ = ⊥

-- the theorem is not decided
abbrev pub IsUndecided : Decision → Type 0
IsUndecided decision.Proved = ⊥
IsUndecided decision.Vacuous = ⊥
IsUndecided (decision.Refuted a) = ⊥
IsUndecided _ = Unit {0}

-- where an answer stands on it that no assignment makes a function true, this is shown
abbrev pub IsShown : Type 0 → Decision → Type 0
IsShown shown decision.Proved = shown
IsShown shown decision.Vacuous = shown
IsShown shown _ = Unit {0}

-- the decision that a fault of a part is
abbrev pub stopped_by : Part → GlFault → Decision
stopped_by part (fault.Clock a) = decision.Clock part a
stopped_by part (fault.Wide a) = decision.Width part a
stopped_by part (fault.Steps a) = decision.Steps part a
stopped_by part (fault.Cells a) = decision.Cells part a
stopped_by part fault.Full = decision.Full
stopped_by part fault.Spent = decision.Spent
stopped_by part fault.Memory = decision.Memory

-- and that the fault of a store's decision is, which is never a wide integer
abbrev pub IsNoWide : SymFault → Type 0
IsNoWide (prim.Wide a) = ⊥
IsNoWide _ = Unit {0}

abbrev pub given_up_by : SymFault → Decision
given_up_by prim.Full = decision.Full
given_up_by prim.Spent = decision.Spent
given_up_by (prim.Wide a) = decision.Memory
given_up_by prim.Memory = decision.Memory
