-- Calls on constants, which the machine evaluates.
use Rattle.std.specs.Prelude.{ℕ, Bool, ◌≡◌, ◌<◌, ◌++◌, List, [], length, map, Some}
use Rattle.bfr_store.specs.declared.meaning.Meaning.{Ghosts}
use Rattle.gl_logic.specs.CellCounts.{cells}
use Rattle.gl_logic.specs.ConstantCall.{constant_call}
use Rattle.gl_logic.specs.Counts.{memoized_cost}
use Rattle.gl_logic.specs.Different.{different}
use Rattle.gl_logic.specs.Evaluate.{evaluate}
use Rattle.gl_logic.specs.Object.{Object}
use Rattle.gl_logic.specs.ObjectEq.{object_eq}
use Rattle.gl_logic.specs.Wide.{IsWide}
use Rattle.gl_logic.specs.WorldSeen.{WorldSeen}
use Rattle.lisp_eval.specs.Machines.{MachineSeen}
use Rattle.lisp_eval.specs.declared.fault.EvalFault.{EvalFault}
use Rattle.lisp_eval.specs.declared.fault.EvalFault.TheVariants as eval
use Rattle.sym_objects.specs.declared.sob.Sob.{Sob}
use Rattle.sym_objects.specs.Seen.{SobsSeen, IsFull, stands_for}
use Rattle.gl_interp.specs.declared.calls.CallFault.{CallFault}
use Rattle.gl_interp.specs.declared.calls.CallFault.TheVariants as fault

-- what nodes stand for under an assignment
abbrev pub values_under : {B : Type 0} → Ghosts B → SobsSeen B → List Sob → (ℕ → Bool) → List Object
values_under g s xs a = map (λ x. stands_for g s x a) xs

-- at each depth at which the call has a value, its memoized cost exceeds the machine's limit
abbrev pub IsDearCall : WorldSeen → MachineSeen → ℕ → List Object → Type 0
IsDearCall w m f xs = (n : ℕ) (x : Object) → evaluate w.definitions n [] (constant_call f xs) ≡ Some x → m.steps < memoized_cost w.definitions m.functions n [] (constant_call f xs)

-- at each such depth, what is held together with the cells that the evaluation speaks of is more different objects than the
-- limit
abbrev pub IsCrowdedCall : WorldSeen → MachineSeen → ℕ → List Object → Type 0
IsCrowdedCall w m f xs = (n : ℕ) (x : Object) → evaluate w.definitions n [] (constant_call f xs) ≡ Some x → m.arena.limit < length (different object_eq (m.arena.objects ++ cells w n [] (constant_call f xs)))

-- the machine's refusal of a call has its cause
abbrev pub HasEvalCause : WorldSeen → MachineSeen → ℕ → List Object → EvalFault → Type 0
HasEvalCause w m f xs eval.Width = IsWide w.definitions [] (constant_call f xs)
HasEvalCause w m f xs eval.Steps = IsDearCall w m f xs
HasEvalCause w m f xs eval.Cells = IsCrowdedCall w m f xs
HasEvalCause w m f xs eval.Memory = Unit {0}

abbrev pub HasCallCause : {B : Type 0} → Ghosts B → SobsSeen B → WorldSeen → MachineSeen → ℕ → List Object → CallFault → Type 0
HasCallCause g new w m f xs fault.Full = IsFull g new
HasCallCause g new w m f xs (fault.Eval e) = HasEvalCause w m f xs e
