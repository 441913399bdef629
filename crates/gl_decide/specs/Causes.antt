-- The causes for which an input leaves a part of a theorem without an answer.
use Rattle.std.specs.Prelude.{◌≡◌, ℕ, ◌<◌, List, None, Some}
use Rattle.gl_logic.specs.Object.{Object}
use Rattle.gl_logic.specs.Exp.{Exp}
use Rattle.gl_logic.specs.Evaluate.{evaluate}
use Rattle.gl_logic.specs.Counts.{memoized_cost}
use Rattle.gl_logic.specs.Wide.{IsWide}
use Rattle.gl_logic.specs.WorldSeen.{WorldSeen}
use Rattle.gl_symbolic.specs.Causes.{IsOutOfCells as HasTooManyCells}

-- with so many definitions opened inside one another the term has no value
abbrev pub IsOutOfClock : WorldSeen → ℕ → List (ℕ × Object) → Exp → Type 0
IsOutOfClock w clock env t = evaluate w.definitions clock env t ≡ None

-- some value on the way is an integer outside 128 bits
abbrev pub IsOutOfWidth : WorldSeen → List (ℕ × Object) → Exp → Type 0
IsOutOfWidth w env t = IsWide w.definitions env t

-- at a depth at which the term has a value, its cost exceeds the limit, where each different call of the memoized functions is opened once
pub record IsOutOfSteps (w : WorldSeen) (memoized : List ℕ) (steps : ℕ) (env : List (ℕ × Object)) (t : Exp) : Type 0 where
  pub depth : ℕ
  pub value : Object
  pub has : evaluate w.definitions depth env t ≡ Some value
  pub more : steps < memoized_cost w.definitions memoized depth env t

-- at such a depth, the cells that the evaluation speaks of are more different objects than the limit
abbrev pub IsOutOfCells : WorldSeen → ℕ → List (ℕ × Object) → Exp → Type 0
IsOutOfCells w cells env t = HasTooManyCells w cells env t
