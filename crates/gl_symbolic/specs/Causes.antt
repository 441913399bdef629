-- The cause for which the cells don't suffice.
use Rattle.std.specs.Prelude.{◌≡◌, ℕ, ◌<◌, List, Some}
use Rattle.gl_logic.specs.Object.{Object}
use Rattle.gl_logic.specs.Exp.{Exp}
use Rattle.gl_logic.specs.Evaluate.{evaluate}
use Rattle.gl_logic.specs.CellCounts.{distinct_cells}
use Rattle.gl_logic.specs.WorldSeen.{WorldSeen}

-- at a depth at which the term has a value, the cells that the evaluation speaks of are more different objects than the limit
pub record IsOutOfCells (w : WorldSeen) (cells : ℕ) (env : List (ℕ × Object)) (t : Exp) : Type 0 where
  pub depth : ℕ
  pub value : Object
  pub has : evaluate w.definitions depth env t ≡ Some value
  pub more : cells < distinct_cells w depth env t
