-- Constant nodes in a machine's arena.
use Rattle.std.specs.Prelude.{◌≡◌, ◌<◌, ℕ, zero, suc, ◌++◌, List, [], ◌∷◌, length, All, Result, IfOk, IfErr, IsErrOf}
use Rattle.std.specs.List.{flat_map}
use Rattle.gl_logic.specs.Different.{different}
use Rattle.gl_logic.specs.Exp.{Exp, Exps, Var, Call, Last, More}
use Rattle.gl_logic.specs.Object.{Object}
use Rattle.gl_logic.specs.ObjectEq.{object_eq}
use Rattle.gl_logic.specs.Parts.{cells_in}
use Rattle.gl_logic.specs.WorldSeen.{WorldSeen}
use Rattle.hons_arena.specs.declared.id.Id.{Id}
use Rattle.hons_arena.specs.Held.{AddsCellsOf, HasNoRoomFor, IsEachOnce}
use Rattle.hons_arena.specs.Ids.{IsIdOf}
use Rattle.lisp_eval.specs.Answers.{HasGrown, IsLiveBinding}
use Rattle.lisp_eval.specs.Machines.{MachineSeen, Fits}
use Rattle.lisp_eval.specs.MachineCalls.{KeepsSettings}
use Rattle.lisp_eval.specs.States.{env_of}
use Rattle.lisp_eval.specs.Within.{AreWithin}
use Rattle.lisp_eval.specs.declared.fault.EvalFault.{EvalFault}
use Rattle.lisp_eval.specs.declared.fault.EvalFault.TheVariants as eval
use Rattle.lisp_eval.specs.declared.frame.Binding.{Binding}

-- the faults of placing
abbrev pub IsForPlace : EvalFault → Type 0
IsForPlace eval.Cells = Unit {0}
IsForPlace eval.Memory = Unit {0}
IsForPlace _ = ⊥

-- the machine's arena has grown, and all that it was made with stays
pub record Grows (old new : MachineSeen) : Type 0 where
  pub grown : HasGrown old.arena.objects new.arena.objects
  pub settings : KeepsSettings old new

-- an object is placed: only cells of it were added, and for want of cells there is no room for it
pub record PlacesOne (x : Object) (old new : MachineSeen) (answer : Result Id EvalFault) : Type 0 where
  pub id : IfOk answer (IsIdOf new.arena.objects x)
  pub adds : AddsCellsOf x old.arena.objects new.arena.objects
  pub room : IsErrOf answer eval.Cells → HasNoRoomFor old.arena x
  pub only : IfErr answer IsForPlace
  pub different : IsEachOnce old.arena.objects
  pub settings : KeepsSettings old new
  pub fits : (w : WorldSeen) → Fits w old → Fits w new

-- so many variables from this one on
abbrev pub variables_from : ℕ → ℕ → Exps
variables_from i zero = Last
variables_from i (suc n) = More (Var i) (variables_from (suc i) n)

-- the call of a definition on variables 0, 1, 2 and so on
abbrev pub variable_call : ℕ → ℕ → Exp
variable_call f n = Call f (variables_from 0 n)

-- the variables from this one on, with these values
abbrev pub numbered_from : ℕ → List Object → List (ℕ × Object)
numbered_from i [] = []
numbered_from i (x ∷ xs) = (i, x) ∷ numbered_from (suc i) xs

-- variables 0, 1, 2 and so on are bound to the ids of these objects, and only cells of them were added
pub record HasPlaced (xs : List Object) (old new : MachineSeen) (env : List Binding) : Type 0 where
  pub live : All (IsLiveBinding new.arena.objects) env
  pub stands : env_of new.arena.objects env ≡ numbered_from 0 xs
  pub within : AreWithin old.arena.objects xs new.arena.objects

-- for want of cells: what was held and the cells of the objects are more different objects than the limit
abbrev pub LacksCells : List Object → MachineSeen → EvalFault → Type 0
LacksCells xs m eval.Cells = m.arena.limit < length (different object_eq (m.arena.objects ++ flat_map cells_in xs))
LacksCells xs m eval.Memory = Unit {0}
LacksCells xs m _ = ⊥
