-- What a machine holds for an input, and what a term makes of it.
use Rattle.std.specs.Prelude.{◌≡◌, ◌≢◌, ℕ, ◌<◌, Bool, not, List, ◌++◌, map, length, All, Contains}
use Rattle.std.specs.List.{flat_map}
use Rattle.gl_logic.specs.Object.{Object}
use Rattle.gl_logic.specs.ObjectEq.{is_nil, object_eq}
use Rattle.gl_logic.specs.Exp.{Exp}
use Rattle.gl_logic.specs.Evaluate.{HasValue}
use Rattle.gl_logic.specs.Parts.{cells_in}
use Rattle.gl_logic.specs.Different.{different}
use Rattle.gl_logic.specs.WorldSeen.{WorldSeen}
use Rattle.hons_arena.specs.Held.{Held}
use Rattle.gl_logic.specs.Wide.{IsWide}
use Rattle.lisp_eval.specs.Answers.{IsLiveBinding, IsDear, IsCrowded}
use Rattle.lisp_eval.specs.Machines.{MachineSeen, Fits}
use Rattle.lisp_eval.specs.MachineCalls.{KeepsSettings}
use Rattle.lisp_eval.specs.States.{env_of}
use Rattle.lisp_eval.specs.declared.frame.Binding.{Binding}
use Rattle.lisp_eval.specs.declared.fault.EvalFault.{EvalFault}
use Rattle.lisp_eval.specs.declared.fault.EvalFault.TheVariants as fault

-- the cells of an environment's objects
abbrev pub input_cells : List (ℕ × Object) → List Object
input_cells env = flat_map cells_in (map (λ p. p.1) env)

-- cells of the environment's objects are added, and nothing else
pub record AddsCellsOfInput (env : List (ℕ × Object)) (old new : List Object) : Type 0 where
  pub made : List Object
  pub is : new ≡ old ++ made
  pub cells : (y : Object) → Contains made y → Contains (input_cells env) y

-- the bindings are live, and stand for the input
pub record Places (input : List (ℕ × Object)) (old new : MachineSeen) (env : List Binding) : Type 0 where
  pub live : All (IsLiveBinding new.arena.objects) env
  pub stands : env_of new.arena.objects env ≡ input
  pub adds : AddsCellsOfInput input old.arena.objects new.arena.objects

-- the objects that are held and the input's cells are more different objects than the limit; or memory was refused
pub record LacksCells (input : List (ℕ × Object)) (old new : MachineSeen) (f : EvalFault) : Type 0 where
  pub only : (f ≢ fault.Memory) → f ≡ fault.Cells
  pub crowded : f ≡ fault.Cells → old.arena.limit < length (different object_eq (old.arena.objects ++ input_cells input))
  pub adds : AddsCellsOfInput input old.arena.objects new.arena.objects

-- whether the term's value is other than NIL
pub record IsTruthOf (w : WorldSeen) (env : List (ℕ × Object)) (t : Exp) (met : Bool) : Type 0 where
  pub value : Object
  pub has : HasValue w.definitions env t value
  pub is : met ≡ not (is_nil value)

-- the arena stands as before, and all else but what is kept
pub record Rests (w : WorldSeen) (old new : MachineSeen) : Type 0 where
  pub arena : new.arena.objects ≡ old.arena.objects
  pub settings : KeepsSettings old new
  pub fits : Fits w new

-- a refusal but want of memory has its cause, by the machine's limits and what it holds
abbrev pub HasLicense : WorldSeen → List ℕ → List (ℕ × Object) → Exp → ℕ → Held → EvalFault → Type 0
HasLicense w functions env t steps arena fault.Width = IsWide w.definitions env t
HasLicense w functions env t steps arena fault.Steps = IsDear w functions env t steps
HasLicense w functions env t steps arena fault.Cells = IsCrowded w env t arena.objects arena.limit
HasLicense w functions env t steps arena fault.Memory = Unit {0}
