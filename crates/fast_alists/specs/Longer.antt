-- A list with one more pair in front.
use Rattle.std.specs.Prelude.{◌≡◌, Result, IfOk, IsErr, List}
use Rattle.gl_logic.specs.Object.{Object, Cons}
use Rattle.hons_arena.specs.declared.id.Full.{Full}
use Rattle.hons_arena.specs.declared.id.Id.{Id}
use Rattle.hons_arena.specs.Held.{Held, IsWhole, AddsCellsOf, HasNoRoomFor}
use Rattle.hons_arena.specs.Ids.{object_at, IsLive}
use Rattle.fast_alists.specs.declared.extend.Longer.{Longer}
use Rattle.fast_alists.specs.Alists.{with_key}

-- the longer list has a pair with this key in front of the list
pub record IsLonger (objects : List Object) (key alist : Id) (longer : Longer) : Type 0 where
  pub key_live : IsLive objects key
  pub alist_live : IsLive objects alist
  pub pair_live : IsLive objects longer.pair
  pub list_live : IsLive objects longer.list
  pub value : Object
  pub pair : object_at objects longer.pair ≡ Cons (object_at objects key) value
  pub list : object_at objects longer.list ≡ Cons (object_at objects longer.pair) (object_at objects alist)

abbrev pub longer_object : List Object → Id → Id → Id → Object
longer_object objects key value alist = with_key (object_at objects key) (object_at objects value) (object_at objects alist)

-- only cells of the longer list are added; Full only where there was no room for it
pub record Extends (old new : Held) (key value alist : Id) (answer : Result Longer Full) : Type 0 where
  pub longer : IfOk answer (IsLonger new.objects key alist)
  pub is : IfOk answer (λ l. object_at new.objects l.list ≡ longer_object old.objects key value alist)
  pub objects : AddsCellsOf (longer_object old.objects key value alist) old.objects new.objects
  pub limit : new.limit ≡ old.limit
  pub whole : IsWhole new
  pub full : IsErr answer → HasNoRoomFor old (longer_object old.objects key value alist)
