-- Constant symbolic objects on their way into an arena.
use Rattle.std.specs.Prelude.{ℕ, Bool, ◌≡◌, ◌<◌}
use Rattle.bfr_store.specs.declared.meaning.Meaning.{Ghosts}
use Rattle.gl_logic.specs.Object.{Object, Cons}
use Rattle.hons_arena.specs.declared.id.Id.{Id}
use Rattle.hons_arena.specs.Held.{Held, IsWhole as IsArenaWhole, AddsCellsOf}
use Rattle.hons_arena.specs.Ids.{IsIdOf}
use Rattle.sym_objects.specs.declared.sob.Sob.{Sob}
use Rattle.sym_objects.specs.Seen.{SobsSeen, IsConstant, IsLive, stands_for}

pub record IsConstantNode {B : Type 0} (g : Ghosts B) (s : SobsSeen B) (x : Sob) : Type 0 where
  pub live : IsLive s x
  pub constant : IsConstant g s x

-- the id is that of the constant node's object
pub record IsIdOfNode {B : Type 0} (g : Ghosts B) (s : SobsSeen B) (held : Held) (x : Sob) (id : Id) : Type 0 where
  pub node : IsConstantNode g s x
  pub is : (a : ℕ → Bool) → IsIdOf held.objects (stands_for g s x a) id

-- c is the cons of a and b
pub record IsConsOf {B : Type 0} (g : Ghosts B) (s : SobsSeen B) (a b c : Sob) : Type 0 where
  pub first : IsConstantNode g s a
  pub second : IsConstantNode g s b
  pub whole : IsConstantNode g s c
  pub first_below : a.number < c.number
  pub second_below : b.number < c.number
  pub is : (v : ℕ → Bool) → stands_for g s c v ≡ Cons (stands_for g s a v) (stands_for g s b v)

-- only cells of the object were added
pub record Extends (old new : Held) (x : Object) : Type 0 where
  pub adds : AddsCellsOf x old.objects new.objects
  pub limit : new.limit ≡ old.limit
  pub whole : IsArenaWhole new
