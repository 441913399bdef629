-- What calls answer.
use Rattle.std.specs.Prelude.{ℕ, Bool, ◌≡◌, Result, IfOk, IsErrOf}
use Rattle.bfr_store.specs.declared.edge.Edge.{Edge}
use Rattle.bfr_store.specs.declared.meaning.Meaning.{Ghosts}
use Rattle.gl_logic.specs.Object.{Object}
use Rattle.hons_arena.specs.declared.id.Id.{Id}
use Rattle.hons_arena.specs.Held.{Held, AddsCellsOf, HasNoRoomFor}
use Rattle.hons_arena.specs.Ids.{IsIdOf}
use Rattle.sym_objects.specs.declared.fault.SobFault.{SobFault}
use Rattle.sym_objects.specs.declared.fault.SobFault.TheVariants as fault
use Rattle.sym_objects.specs.declared.sob.Sob.{Sob}
use Rattle.sym_objects.specs.Seen.{SobsSeen, IsLive, stands_for}
use Rattle.sym_objects.specs.Keeps.{Keeps}

-- a call that makes a symbolic object: the answer is live and stands for the object of each assignment
pub record Makes {B E : Type 0} (g : Ghosts B) (old new : SobsSeen B) (result : Result Sob E) (object : (ℕ → Bool) → Object) : Type 0 where
  pub keeps : Keeps g old new
  pub live : IfOk result (λ r. IsLive new r)
  pub means : IfOk result (λ r. (a : ℕ → Bool) → stands_for g new r a ≡ object a)

-- a call that makes a function: the answer is a live edge that stands for it
pub record MakesEdge {B E : Type 0} (g : Ghosts B) (old new : SobsSeen B) (result : Result Edge E) (function : (ℕ → Bool) → Bool) : Type 0 where
  pub keeps : Keeps g old new
  pub live : IfOk result (λ e. g.live new.store e)
  pub truth : IfOk result (λ e. (a : ℕ → Bool) → g.truth_of new.store e a ≡ function a)

-- a call that places an object in an arena: the answer is its id, and only cells of the object are added; Full exactly where
-- its different cells that were not held are more than the free room was, but for want of memory
pub record Places (old new : Held) (x : Object) (answer : Result Id SobFault) : Type 0 where
  pub id : IfOk answer (IsIdOf new.objects x)
  pub objects : AddsCellsOf x old.objects new.objects
  pub limit : new.limit ≡ old.limit
  pub full : IsErrOf answer fault.Full → HasNoRoomFor old x
  pub room : IfOk answer (λ _. ¬ HasNoRoomFor old x)
