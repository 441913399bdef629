-- Machines that have begun for one evaluation.
use Rattle.std.specs.Prelude.{◌≡◌, ℕ, List, All, Contains}
use Rattle.gl_logic.specs.CellCounts.{constant_cells}
use Rattle.gl_logic.specs.WorldSeen.{WorldSeen}
use Rattle.lisp_eval.specs.Machines.{MachineSeen, Fits}
use Rattle.lisp_eval.specs.declared.fault.EvalFault.{EvalFault}
use Rattle.lisp_eval.specs.declared.fault.EvalFault.TheVariants as fault
use Rattle.gl_decide.specs.Bounds.{Bounds}
use Rattle.gl_book.specs.declared.answer.Cause.{Cause}
use Rattle.gl_book.specs.declared.answer.Cause.TheVariants as cause

-- the machine fits the world, with these functions and limits, and holds the cells of the world's constants alone
pub record BeginsFor (w : WorldSeen) (memoized : List ℕ) (bounds : Bounds) (m : MachineSeen) : Type 0 where
  pub fits : Fits w m
  pub functions : m.functions ≡ memoized
  pub cells : All (Contains (constant_cells w)) m.arena.objects
  pub limit : m.arena.limit ≡ bounds.cells
  pub steps : m.steps ≡ bounds.steps

abbrev pub cause_from : EvalFault → Cause
cause_from fault.Width = cause.Width
cause_from fault.Steps = cause.Steps
cause_from fault.Cells = cause.Cells
cause_from fault.Memory = cause.Memory
