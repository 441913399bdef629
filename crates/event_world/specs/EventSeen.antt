-- What contracts see of an event.
use Rattle.std.specs.Prelude.{ℕ, List}
use Rattle.gl_logic.specs.Exp.{Exp}
use Rattle.gl_logic.specs.Definition.{Definition}
use Rattle.shape_spec.specs.declared.theorem.Mode.{Mode}
use Rattle.gl_cases.specs.Parts.{ParamSeen}
pub use Rattle.shape_spec.specs.TheoremSeen.{TheoremSeen}

-- names, definitions and functions by their numbers
pub data EventSeen : Type 0 where
  Nothing : EventSeen
  Redundant : ℕ → EventSeen
  Defun : Definition → EventSeen
  Defconst : ℕ → Exp → EventSeen
  Value : Exp → EventSeen
  Assert : Exp → EventSeen
  Memoize : ℕ → EventSeen
  Unmemoize : ℕ → EventSeen
  SetMode : Mode → EventSeen
  Theorem : TheoremSeen → EventSeen
  Cases : ParamSeen → EventSeen
  Clique : List Definition → EventSeen
  RedundantClique : List ℕ → EventSeen
