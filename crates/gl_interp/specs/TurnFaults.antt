-- What the fault of a turn says.
use Rattle.std.specs.Prelude.{ℕ, Bool, ◌≡◌, List, [], IsTrue}
use Rattle.bfr_store.specs.declared.meaning.Meaning.{Ghosts}
use Rattle.gl_logic.specs.Assignments.{value_at}
use Rattle.gl_logic.specs.ConstantCall.{constant_call}
use Rattle.gl_logic.specs.Exp.{Exp}
use Rattle.gl_logic.specs.Exp as exp
use Rattle.gl_logic.specs.Object.{Object}
use Rattle.gl_logic.specs.PrimValue.{prim_value}
use Rattle.gl_logic.specs.TermOf.{term_of}
use Rattle.gl_logic.specs.Wide.{IsWide, IsWideObject}
use Rattle.gl_logic.specs.WorldSeen.{WorldSeen}
use Rattle.hons_arena.specs.Held.{HasNoRoomFor, IsEachOnce}
use Rattle.lisp_eval.specs.Machines.{MachineSeen}
use Rattle.sym_objects.specs.declared.sob.Sob.{Sob}
use Rattle.sym_objects.specs.Seen.{SobsSeen, IsFull}
use Rattle.gl_interp.specs.Calls.{IsCrowdedCall, IsDearCall, values_under}
use Rattle.gl_interp.specs.Causes.{IsOnPath}
use Rattle.gl_interp.specs.declared.fault.GlFault.{GlFault}
use Rattle.gl_interp.specs.declared.fault.GlFault.TheVariants as fault
use Rattle.gl_interp.specs.declared.frame.Path.{Path}
use Rattle.gl_interp.specs.declared.frame.Work.TheVariants as work
use Rattle.gl_interp.specs.declared.frame.Focus.{Focus}
use Rattle.gl_interp.specs.declared.frame.Focus.TheVariants as focus

-- a definition is to be opened, and the clock stands at 0
abbrev pub IsStopped : Focus → Type 0
IsStopped (focus.Run (work.Call f) args env n) = n ≡ 0
IsStopped _ = ⊥

-- a primitive's value is wide, or a call is
abbrev pub IsWideTurn : {B : Type 0} → Ghosts B → SobsSeen B → WorldSeen → (ℕ → Bool) → Focus → Type 0
IsWideTurn g s w a (focus.Run (work.Prim p) args env n) = IsWideObject (prim_value p (values_under g s args.items a))
IsWideTurn g s w a (focus.Run (work.Call f) args env n) = IsWide w.definitions [] (constant_call f.number (values_under g s args.items a))
IsWideTurn g s w a _ = ⊥

abbrev pub IsDearTurn : {B : Type 0} → Ghosts B → SobsSeen B → WorldSeen → MachineSeen → (ℕ → Bool) → Focus → Type 0
IsDearTurn g s w m a (focus.Run (work.Call f) args env n) = IsDearCall w m f.number (values_under g s args.items a)
IsDearTurn g s w m a _ = ⊥

-- there is no room for a constant
pub record IsTooLarge (m : MachineSeen) (e : Exp) : Type 0 where
  pub object : Object
  pub is : e ≡ exp.Const object
  pub room : HasNoRoomFor m.arena object
  pub different : IsEachOnce m.arena.objects

abbrev pub IsCrowdedTurn : {B : Type 0} → Ghosts B → SobsSeen B → WorldSeen → MachineSeen → (ℕ → Bool) → Focus → Type 0
IsCrowdedTurn g s w m a (focus.Visit t env n) = IsTooLarge m (term_of t.now)
IsCrowdedTurn g s w m a (focus.Run (work.Call f) args env n) = IsCrowdedCall w m f.number (values_under g s args.items a)
IsCrowdedTurn g s w m a _ = ⊥

-- the cause is there for what the turn was to do, under an assignment of the path
abbrev pub HasTurnCause : {B : Type 0} → Ghosts B → SobsSeen B → SobsSeen B → WorldSeen → MachineSeen → Path → Focus → GlFault → Type 0
HasTurnCause g old new w m path f (fault.Clock a) = IsOnPath g new path.edge a × IsStopped f
HasTurnCause g old new w m path f (fault.Wide a) = IsOnPath g new path.edge a × IsWideTurn g old w (value_at a) f
HasTurnCause g old new w m path f (fault.Steps a) = IsOnPath g new path.edge a × IsDearTurn g old w m (value_at a) f
HasTurnCause g old new w m path f (fault.Cells a) = IsOnPath g new path.edge a × IsCrowdedTurn g old w m (value_at a) f
HasTurnCause g old new w m path f fault.Full = IsFull g new
HasTurnCause g old new w m path f fault.Spent = IsTrue (g.spent new.store)
HasTurnCause g old new w m path f fault.Memory = Unit {0}

-- a fault without an assignment, whose cause is there
abbrev pub HasPlainCause : {B : Type 0} → Ghosts B → SobsSeen B → GlFault → Type 0
HasPlainCause g new fault.Full = IsFull g new
HasPlainCause g new fault.Spent = IsTrue (g.spent new.store)
HasPlainCause g new fault.Memory = Unit {0}
HasPlainCause g new _ = ⊥

-- of a constant's node: there is no room for the object
abbrev pub HasConstantCause : {B : Type 0} → Ghosts B → SobsSeen B → MachineSeen → Path → Object → GlFault → Type 0
HasConstantCause g new m path x (fault.Cells a) = IsOnPath g new path.edge a × HasNoRoomFor m.arena x × IsEachOnce m.arena.objects
HasConstantCause g new m path x f = HasPlainCause g new f

-- of a call on constants: it is wide, dear or crowded
abbrev pub HasMachineCause : {B : Type 0} → Ghosts B → SobsSeen B → SobsSeen B → WorldSeen → MachineSeen → Path → ℕ → List Sob → GlFault → Type 0
HasMachineCause g old new w m path f args (fault.Wide a) = IsOnPath g new path.edge a × IsWide w.definitions [] (constant_call f (values_under g old args (value_at a)))
HasMachineCause g old new w m path f args (fault.Steps a) = IsOnPath g new path.edge a × IsDearCall w m f (values_under g old args (value_at a))
HasMachineCause g old new w m path f args (fault.Cells a) = IsOnPath g new path.edge a × IsCrowdedCall w m f (values_under g old args (value_at a))
HasMachineCause g old new w m path f args c = HasPlainCause g new c
