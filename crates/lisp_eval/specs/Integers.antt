-- What terms over integers of 64 bits give.
use Rattle.std.specs.Prelude.{◌<◌, ◌-◌, ℕ, ℤ, List}
use Rattle.gl_logic.specs.Definition.{Definition}
use Rattle.gl_logic.specs.Exp.{Exp}
use Rattle.gl_logic.specs.Object.{Object, Int}
use Rattle.lisp_eval.specs.Directs.{GivesAtOnce, IsFound}
use Rattle.lisp_eval.specs.Narrow.{IsNarrow}
use Rattle.lisp_eval.specs.Outside.{locals_of}
use Rattle.lisp_eval.specs.declared.attempt.Found.{Found}
use Rattle.lisp_eval.specs.declared.value.Local.{Local}

-- in any world, and whatever the objects of an arena are, the term gives this integer on the locals, in as many visits as
-- are gone
pub record GivesInteger (locals : List Local) (t : Exp) (before after : ℕ) (i : ℤ) : Type 0 where
  pub fewer : after < before
  pub narrow : IsNarrow (Int i)
  pub gives : (definitions : List Definition) (functions : List ℕ) (objects : List Object) → GivesAtOnce definitions functions (locals_of objects locals) t (Int i) (before - after)

-- in this world, whatever the objects of an arena are
abbrev pub IsFoundOn : List Definition → List ℕ → List Local → Exp → ℕ → Found → Type 0
IsFoundOn definitions functions locals t left f = (objects : List Object) → IsFound definitions functions objects (locals_of objects locals) t left f
