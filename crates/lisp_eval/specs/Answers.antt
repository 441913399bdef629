-- What an evaluation answers, and when.
use Rattle.std.specs.Prelude.{◌≡◌, ◌<◌, ◌++◌, ℕ, List, length, Some, Result, IsErrOf}
use Rattle.gl_logic.specs.Object.{Object}
use Rattle.gl_logic.specs.ObjectEq.{object_eq}
use Rattle.gl_logic.specs.Definition.{Definition}
use Rattle.gl_logic.specs.Different.{different}
use Rattle.gl_logic.specs.Every.{Every}
use Rattle.gl_logic.specs.Exp.{Exp}
use Rattle.gl_logic.specs.Evaluate.{evaluate, HasValue}
use Rattle.gl_logic.specs.Counts.{memoized_cost}
use Rattle.gl_logic.specs.CellCounts.{cells}
use Rattle.gl_logic.specs.Wide.{IsWide}
use Rattle.gl_logic.specs.WorldSeen.{WorldSeen}
use Rattle.gl_logic.specs.Walk.{Walk, CallMade, body_walk}
use Rattle.hons_arena.specs.declared.id.Id.{Id}
use Rattle.hons_arena.specs.Held.{Held}
use Rattle.hons_arena.specs.Ids.{object_at, IsLive}
use Rattle.memo_tables.specs.Calls.{Call}
use Rattle.lisp_eval.specs.CallValue.{IsCallValue}
use Rattle.lisp_eval.specs.Kept.{entries_of}
use Rattle.lisp_eval.specs.Narrow.{IsNarrow}
use Rattle.lisp_eval.specs.declared.frame.Binding.{Binding}
use Rattle.lisp_eval.specs.declared.halt.Cause.{Cause}
use Rattle.lisp_eval.specs.declared.halt.Cause.TheVariants as cause
use Rattle.lisp_eval.specs.declared.fault.EvalFault.{EvalFault}
use Rattle.lisp_eval.specs.declared.fault.EvalFault.TheVariants as fault

-- at a depth at which the term has a value, the memoized cost exceeds the limit
pub record IsDear (w : WorldSeen) (functions : List ℕ) (env : List (ℕ × Object)) (t : Exp) (limit : ℕ) : Type 0 where
  pub depth : ℕ
  pub value : Object
  pub has : evaluate w.definitions depth env t ≡ Some value
  pub more : limit < memoized_cost w.definitions functions depth env t

-- at such a depth, the objects that were held at the start together with the cells that the evaluation speaks of are more
-- different objects than the limit
pub record IsCrowded (w : WorldSeen) (env : List (ℕ × Object)) (t : Exp) (start : List Object) (limit : ℕ) : Type 0 where
  pub depth : ℕ
  pub value : Object
  pub has : evaluate w.definitions depth env t ≡ Some value
  pub more : limit < length (different object_eq (start ++ cells w depth env t))

-- the id of the term's value, and no value on the way is wide
pub record IsValueOf (w : WorldSeen) (env : List (ℕ × Object)) (t : Exp) (objects : List Object) (id : Id) : Type 0 where
  pub live : IsLive objects id
  pub value : HasValue w.definitions env t (object_at objects id)
  pub narrow : ¬ IsWide w.definitions env t

abbrev pub IsCauseOf : WorldSeen → List ℕ → List (ℕ × Object) → Exp → ℕ → List Object → ℕ → Cause → Type 0
IsCauseOf w functions env t limit start room cause.Width = IsWide w.definitions env t
IsCauseOf w functions env t limit start room cause.Steps = IsDear w functions env t limit
IsCauseOf w functions env t limit start room cause.Cells = IsCrowded w env t start room

-- ---- kept calls
-- no value of the plain evaluation of the call's body has a part that is wide
abbrev pub IsNarrowCall : List Definition → CallMade → Type 0
IsNarrowCall definitions c = (n : ℕ) (r : Walk) → body_walk definitions n c.0 c.1 ≡ Some r → Every IsNarrow r.seen

-- each kept result is the value of its call, and no value of that call's plain evaluation has a part that is wide
pub record IsRightEntry (definitions : List Definition) (e : CallMade × Object) : Type 0 where
  pub value : IsCallValue definitions e.0.0 e.0.1 e.1
  pub narrow : IsNarrowCall definitions e.0

-- in whatever arena more cells are added to this one, the kept calls stand for these
pub record FitMemos (definitions : List Definition) (objects : List Object) (entries : List (Call × Id)) : Type 0 where
  pub calls : List (CallMade × Object)
  pub stand : (more : List Object) → entries_of (objects ++ more) entries ≡ calls
  pub right : Every (IsRightEntry definitions) calls

abbrev pub HasGrown : List Object → List Object → Type 0
HasGrown old new = (made : List Object) × (new ≡ old ++ made)

-- ---- of a whole evaluation
abbrev pub IsLiveBinding : List Object → Binding → Type 0
IsLiveBinding objects b = IsLive objects b.value

abbrev pub fault_of : Cause → EvalFault
fault_of cause.Width = fault.Width
fault_of cause.Steps = fault.Steps
fault_of cause.Cells = fault.Cells

-- each refusal but want of memory has its cause
pub record IsLicensed (w : WorldSeen) (functions : List ℕ) (env : List (ℕ × Object)) (t : Exp) (steps : ℕ) (arena : Held) (answer : Result Id EvalFault) : Type 0 where
  pub width : IsErrOf answer fault.Width → IsWide w.definitions env t
  pub steps_more : IsErrOf answer fault.Steps → IsDear w functions env t steps
  pub cells_more : IsErrOf answer fault.Cells → IsCrowded w env t arena.objects arena.limit
