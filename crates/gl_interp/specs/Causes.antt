-- What an interpretation leaves and answers, and what a fault says.
use Rattle.std.specs.Prelude.{ℕ, Bool, true, ◌≡◌, ◌<◌, ◌++◌, List, length, map, None, Result, IfOk, IfErr, IsTrue}
use Rattle.std.specs.List.{flat_map}
use Rattle.bfr_store.specs.declared.edge.Edge.{Edge}
use Rattle.bfr_store.specs.declared.meaning.Meaning.{Ghosts}
use Rattle.gl_logic.specs.Assignments.{value_at}
use Rattle.gl_logic.specs.Different.{different}
use Rattle.gl_logic.specs.Evaluate.{evaluate, HasValue}
use Rattle.gl_logic.specs.Exp.{Exp}
use Rattle.gl_logic.specs.Object.{Object}
use Rattle.gl_logic.specs.ObjectEq.{object_eq}
use Rattle.gl_logic.specs.Parts.{cells_in}
use Rattle.gl_logic.specs.Wide.{IsWide}
use Rattle.gl_logic.specs.WorldSeen.{WorldSeen}
use Rattle.lisp_eval.specs.Answers.{IsDear, IsCrowded}
use Rattle.lisp_eval.specs.Machines.{MachineSeen, Fits}
use Rattle.lisp_eval.specs.MachineCalls.{KeepsSettings}
use Rattle.shape_spec.specs.Indices.{width_of}
use Rattle.shape_spec.specs.InputMeant.{input_meant}
use Rattle.shape_spec.specs.ShapeSeen.{ShapeSeen}
use Rattle.sym_objects.specs.declared.sob.Sob.{Sob}
use Rattle.sym_objects.specs.Seen.{SobsSeen, IsFull, IsLive, stands_for}
use Rattle.sym_prims.specs.Applying.{Leaves}
use Rattle.gl_interp.specs.declared.fault.GlFault.{GlFault}
use Rattle.gl_interp.specs.declared.fault.GlFault.TheVariants as fault
use Rattle.gl_interp.specs.Environments.{AreLive, env_under, vector_at}

-- the assignment has a value for each variable of the store, and makes the path true
abbrev pub IsOnPath : {B : Type 0} → Ghosts B → SobsSeen B → Edge → List Bool → Type 0
IsOnPath g s path a = (length a ≡ g.width_of s.store) × (g.truth_of s.store path (value_at a) ≡ true)

-- the arena stands as before, and so does all that the machine was made with
pub record Rests (old new : MachineSeen) : Type 0 where
  pub arena : new.arena ≡ old.arena
  pub settings : KeepsSettings old new
  pub fits : (w : WorldSeen) → Fits w old → Fits w new

-- ---- a term
-- what is interpreted: a world, the machine beside it, how many definitions may be opened inside one another, a term, the
-- symbolic objects of its variables, and the path
pub record Task : Type 0 where
  pub world : WorldSeen
  pub machine : MachineSeen
  pub clock : ℕ
  pub term : Exp
  pub env : List (ℕ × Sob)
  pub path : Edge

-- the cause of a fault is there: on the environment under its assignment, which is one of the path; or a count stands at
-- its limit, or the last decision was given up. Want of memory has none
abbrev pub HasCause : {B : Type 0} → Ghosts B → SobsSeen B → SobsSeen B → Task → GlFault → Type 0
HasCause g old new t (fault.Clock a) = IsOnPath g old t.path a × (evaluate t.world.definitions t.clock (env_under g old t.env (value_at a)) t.term ≡ None)
HasCause g old new t (fault.Wide a) = IsOnPath g old t.path a × IsWide t.world.definitions (env_under g old t.env (value_at a)) t.term
HasCause g old new t (fault.Steps a) = IsOnPath g old t.path a × IsDear t.world t.machine.functions (env_under g old t.env (value_at a)) t.term t.machine.steps
HasCause g old new t (fault.Cells a) = IsOnPath g old t.path a × IsCrowded t.world (env_under g old t.env (value_at a)) t.term t.machine.arena.objects t.machine.arena.limit
HasCause g old new t fault.Full = IsFull g new
HasCause g old new t fault.Spent = IsTrue (g.spent new.store)
HasCause g old new t fault.Memory = Unit {0}

-- the answer stands, under each assignment of the path, for the term's value; a fault has its cause
pub record Interprets {B : Type 0} (g : Ghosts B) (old new : SobsSeen B) (t : Task) (answer : Result Sob GlFault) : Type 0 where
  pub leaves : Leaves g old new
  pub live : IfOk answer (λ r. IsLive new r)
  pub value : IfOk answer (λ r. (a : ℕ → Bool) → g.truth_of old.store t.path a ≡ true → HasValue t.world.definitions (env_under g old t.env a) t.term (stands_for g new r a))
  pub cause : IfErr answer (HasCause g old new t)

-- ---- bindings
-- the objects that are held together with the cells of the input are more different objects than the limit
abbrev pub IsCrowdedBy : MachineSeen → List (ℕ × Object) → Type 0
IsCrowdedBy m input = m.arena.limit < length (different object_eq (m.arena.objects ++ flat_map cells_in (map (λ p. p.1) input)))

-- of the faults only Full, Cells and Memory come; Cells with an assignment whose input leaves too few cells
abbrev pub HasInputCause : {B : Type 0} → Ghosts B → SobsSeen B → List (ℕ × ShapeSeen) → MachineSeen → GlFault → Type 0
HasInputCause g new b m (fault.Cells a) = (length a ≡ width_of b) × IsCrowdedBy m (input_meant b (value_at a))
HasInputCause g new b m fault.Full = IsFull g new
HasInputCause g new b m fault.Memory = Unit {0}
HasInputCause g new b m _ = ⊥

-- the environment stands, under each assignment, for the input at the assignment that the vector makes of it
pub record StandsOver {B : Type 0} (g : Ghosts B) (old new : SobsSeen B) (b : List (ℕ × ShapeSeen)) (edges : List Edge) (env : List (ℕ × Sob)) : Type 0 where
  pub live : AreLive new env
  pub input : (a : ℕ → Bool) → env_under g new env a ≡ input_meant b (vector_at g old.store edges a)

-- the environment stands, under each assignment, for its input
pub record StandsFor {B : Type 0} (g : Ghosts B) (new : SobsSeen B) (b : List (ℕ × ShapeSeen)) (env : List (ℕ × Sob)) : Type 0 where
  pub live : AreLive new env
  pub input : (a : ℕ → Bool) → env_under g new env a ≡ input_meant b a
  pub width : g.width_of new.store ≡ width_of b
