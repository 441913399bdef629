-- How an arena changes where a list is made.
use Rattle.std.specs.Prelude.{◌≡◌, Result, IfOk, IsErrOf}
use Rattle.gl_logic.specs.Object.{Object}
use Rattle.hons_arena.specs.declared.id.Id.{Id}
use Rattle.hons_arena.specs.Held.{Held, IsWhole, AddsCellsOf, LacksCell, HasNoRoomFor}
use Rattle.hons_arena.specs.Ids.{IsIdOf}
use Rattle.fast_alists.specs.declared.fault.AlistFault.{AlistFault}
use Rattle.fast_alists.specs.declared.fault.AlistFault.TheVariants as fault

-- the answer is the object's id, and only cells of the object are added; Full only where its different cells that were
-- not held are more than the free room was
pub record Makes (old new : Held) (x : Object) (answer : Result Id AlistFault) : Type 0 where
  pub id : IfOk answer (IsIdOf new.objects x)
  pub objects : AddsCellsOf x old.objects new.objects
  pub limit : new.limit ≡ old.limit
  pub full : IsErrOf answer fault.Full → HasNoRoomFor old x

-- some cell of the object is not held by then, and no cell is left
pub record IsStuck (held : Held) (x : Object) : Type 0 where
  pub lacks : LacksCell held x
  pub whole : IsWhole held

-- the same in the midst of the work
pub record GoesOn (old new : Held) (x : Object) (answer : Result Id AlistFault) : Type 0 where
  pub id : IfOk answer (IsIdOf new.objects x)
  pub objects : AddsCellsOf x old.objects new.objects
  pub limit : new.limit ≡ old.limit
  pub stuck : IsErrOf answer fault.Full → IsStuck new x
