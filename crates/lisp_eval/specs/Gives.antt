-- The value of a primitive on ids of an arena.
use Rattle.std.specs.Prelude.{◌≡◌, Bool, true, false, Result, IfOk, OnErr, IsErrOf, ◌⊎◌}
use Rattle.gl_logic.specs.Object.{Object}
use Rattle.gl_logic.specs.Parts.{is_cell}
use Rattle.gl_logic.specs.Wide.{IsWideObject}
use Rattle.gl_logic.specs.declared.prim.Primitive.{Primitive}
use Rattle.gl_logic.specs.declared.prim.Primitive.TheVariants as prim
use Rattle.hons_arena.specs.declared.id.Id.{Id}
use Rattle.hons_arena.specs.Held.{Held, HasNoCell, AddsCellsOf, IsWhole}
use Rattle.hons_arena.specs.Ids.{IsIdOf}
use Rattle.lisp_eval.specs.declared.primitives.PrimFault.{PrimFault}
use Rattle.lisp_eval.specs.declared.primitives.PrimFault.TheVariants as fault

-- the primitives whose value is always T or NIL
abbrev pub is_predicate : Primitive → Bool
is_predicate prim.Consp = true
is_predicate prim.Integerp = true
is_predicate prim.Symbolp = true
is_predicate prim.Stringp = true
is_predicate prim.Characterp = true
is_predicate prim.Equal = true
is_predicate prim.Not = true
is_predicate prim.Less = true
is_predicate prim.Logbitp = true
is_predicate prim.UnsignedByteP = true
is_predicate prim.SignedByteP = true
is_predicate _ = false

-- the two tests of bytes, which want integers
abbrev pub IsByteTest : Primitive → Type 0
IsByteTest p = (p ≡ prim.UnsignedByteP) ⊎ (p ≡ prim.SignedByteP)

-- the answer is the value's id, and the value is the one cell that may be added; Wide only where it is an integer that
-- leaves 128 bits, Full only where it is not held and no cell is left, and then nothing has changed
pub record Gives (old new : Held) (value : Object) (answer : Result Id PrimFault) : Type 0 where
  pub id : IfOk answer (IsIdOf new.objects value)
  pub objects : AddsCellsOf value old.objects new.objects
  pub limit : new.limit ≡ old.limit
  pub wide : IsErrOf answer fault.Wide → IsWideObject value
  pub full : IsErrOf answer fault.Full → HasNoCell old value
  pub cell : IsErrOf answer fault.Full → is_cell value ≡ true
  pub unchanged : OnErr answer (new ≡ old)
  pub whole : IsWhole old → IsWhole new
