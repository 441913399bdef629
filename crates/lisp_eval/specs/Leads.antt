-- A walk that goes on as the walk of another term.
use Rattle.std.specs.Prelude.{◌≡◌, ℕ, ◌+◌, List, Some, length, ◌⊎◌}
use Rattle.gl_logic.specs.Definition.{Definition}
use Rattle.gl_logic.specs.Every.{Every}
use Rattle.gl_logic.specs.Exp.{Exp}
use Rattle.gl_logic.specs.Object.{Object}
use Rattle.gl_logic.specs.Walk.{CallMade}
use Rattle.lisp_eval.specs.Narrow.{IsNarrow}
use Rattle.lisp_eval.specs.Tables.{answered_in}
use Rattle.lisp_eval.specs.Threads.{Thread, thread}
use Rattle.lisp_eval.specs.Within.{IsIn}

-- behind so many visits, which see nothing wide, the walk is this other one, with the same value and the same kept calls
pub record Follows (visits : ℕ) (r s : Thread) : Type 0 where
  pub met : List Object
  pub value : s.value ≡ r.value
  pub calls : s.kept ≡ r.kept
  pub count : visits + length s.seen ≡ length r.seen
  pub narrow : Every IsNarrow met
  pub met_seen : (x : Object) → IsIn met x → IsIn r.seen x
  pub later_seen : (x : Object) → IsIn s.seen x → IsIn r.seen x
  pub all_seen : (x : Object) → IsIn r.seen x → IsIn met x ⊎ IsIn s.seen x

module _ (definitions : List Definition) (functions : List ℕ) where
  -- however deep definitions are opened, and whatever calls are kept, the walk of the one term, where it ends, goes on as
  -- that of the other
  abbrev pub LeadsTo : List (ℕ × Object) → Exp → List (ℕ × Object) → Exp → ℕ → Type 0
  LeadsTo env t inner u visits = (n : ℕ) (kept : List CallMade) (r : Thread) → thread definitions (answered_in definitions) functions n env t kept ≡ Some r
      → (s : Thread) × ((thread definitions (answered_in definitions) functions n inner u kept ≡ Some s) × Follows visits r s)
