-- What the calls of a machine do.
use Rattle.std.specs.Prelude.{◌≡◌, ℕ, ◌<◌, List, [], length, All, Contains, Result, IsErr, IsErrOf, Some}
use Rattle.std.specs.List.{flat_map}
use Rattle.gl_logic.specs.CellCounts.{constant_cells, world_constants}
use Rattle.gl_logic.specs.Counts.{seen}
use Rattle.gl_logic.specs.Different.{different}
use Rattle.gl_logic.specs.Evaluate.{evaluate}
use Rattle.gl_logic.specs.Exp.{Exp}
use Rattle.gl_logic.specs.Object.{Object}
use Rattle.gl_logic.specs.ObjectEq.{object_eq}
use Rattle.gl_logic.specs.Parts.{cells_in}
use Rattle.gl_logic.specs.WorldSeen.{WorldSeen}
use Rattle.lisp_eval.specs.Machines.{MachineSeen, Fits}
use Rattle.lisp_eval.specs.Within.{AreWithin}
use Rattle.lisp_eval.specs.declared.fault.EvalFault.{EvalFault}
use Rattle.lisp_eval.specs.declared.fault.EvalFault.TheVariants as fault

-- what a machine was made with stays: its limits and its memoized functions
pub record KeepsSettings (old new : MachineSeen) : Type 0 where
  pub limit : new.arena.limit ≡ old.arena.limit
  pub steps : new.steps ≡ old.steps
  pub functions : new.functions ≡ old.functions

-- nothing is held, kept or memoized, no list has a table, and the limits stay
pub record IsEmptied (old new : MachineSeen) : Type 0 where
  pub objects : new.arena.objects ≡ []
  pub limit : new.arena.limit ≡ old.arena.limit
  pub steps : new.steps ≡ old.steps
  pub functions : new.functions ≡ []
  pub memos : new.memos ≡ []
  pub tables : new.tables ≡ []

-- the different cells of these objects
abbrev pub different_cells : List Object → List Object
different_cells xs = different object_eq (flat_map cells_in xs)

-- the world's constants have more different cells than the limit
abbrev pub HasTooManyConstants : WorldSeen → ℕ → Type 0
HasTooManyConstants w limit = limit < length (different_cells (world_constants w))

-- the machine fits the world, with these functions memoized, no call kept, no list with a table, and nothing held but cells
-- of the world's constants
pub record BeginsWith (w : WorldSeen) (memoized : List ℕ) (old new : MachineSeen) : Type 0 where
  pub fits : Fits w new
  pub functions : new.functions ≡ memoized
  pub cells : All (Contains (constant_cells w)) new.arena.objects
  pub limit : new.arena.limit ≡ old.arena.limit
  pub steps : new.steps ≡ old.steps
  pub memos : new.memos ≡ []
  pub tables : new.tables ≡ []

-- no refusal but for want of cells or of memory; for want of cells only where the constants' different cells exceed the
-- limit, and where they do some refusal
pub record RefusesForCells (w : WorldSeen) (limit : ℕ) (answer : Result (Unit {0}) EvalFault) : Type 0 where
  pub cells : IsErrOf answer fault.Cells → HasTooManyConstants w limit
  pub too_many : HasTooManyConstants w limit → IsErr answer
  pub no_width : ¬ IsErrOf answer fault.Width
  pub no_steps : ¬ IsErrOf answer fault.Steps

-- at a depth at which the term has a value, each cell that is held now was held before or is a cell of the value of a
-- visited subterm
pub record HoldsSeen (w : WorldSeen) (env : List (ℕ × Object)) (t : Exp) (old new : List Object) : Type 0 where
  pub depth : ℕ
  pub value : Object
  pub has : evaluate w.definitions depth env t ≡ Some value
  pub cells : AreWithin old (seen w.definitions depth env t) new

-- the arena stands as before, no call is kept, and no list has a table
pub record IsRefused (old new : MachineSeen) : Type 0 where
  pub arena : new.arena ≡ old.arena
  pub memos : new.memos ≡ []
  pub tables : new.tables ≡ []
