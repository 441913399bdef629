-- Constant symbolic objects on their way.
use Rattle.std.specs.Prelude.{ℕ, Bool, ◌≡◌, List}
use Rattle.bfr_store.specs.declared.meaning.Meaning.{Ghosts}
use Rattle.gl_logic.specs.Lists.{size_of}
use Rattle.gl_logic.specs.Object.{Object, Int, Character, Symbol, Text, Cons, nil}
use Rattle.hons_arena.specs.Ids.{IsLive as IsIdLive, object_at}
use Rattle.hons_arena.specs.declared.id.Id.{Id}
use Rattle.hons_arena.specs.HashedIds.{kind_from}
use Rattle.hons_arena.specs.Ids.{id_numbered}
use Rattle.hons_arena.specs.declared.id.Kind.{Kind}
use Rattle.hons_arena.specs.declared.id.Kind.TheVariants as kind
use Rattle.sym_objects.specs.declared.memo.Key.{Key}
use Rattle.sym_objects.specs.declared.sob.Sob.{Sob}
use Rattle.sym_objects.specs.Seen.{SobsSeen, IsConstant, IsLive, stands_for}

-- the node is the constant one of the arena's object
pub record IsConstantOf {B : Type 0} (g : Ghosts B) (s : SobsSeen B) (objects : List Object) (id : Id) (x : Sob) : Type 0 where
  pub live : IsLive s x
  pub held : IsIdLive objects id
  pub constant : IsConstant g s x
  pub means : (a : ℕ → Bool) → stands_for g s x a ≡ object_at objects id

-- c is the cons of a and b
pub record AreConsParts (objects : List Object) (a b c : Id) : Type 0 where
  pub first : IsIdLive objects a
  pub second : IsIdLive objects b
  pub whole : IsIdLive objects c
  pub is : object_at objects c ≡ Cons (object_at objects a) (object_at objects b)

-- the object that is of this kind, where it is no cons
abbrev pub object_of_kind : Kind → Object
object_of_kind (kind.Int z) = Int z
object_of_kind (kind.Character n) = Character n
object_of_kind (kind.Symbol t) = Symbol t.number
object_of_kind (kind.Text t) = Text t.number
object_of_kind kind.Cons = nil

-- the id that a key means
abbrev pub id_of : Key → Id
id_of k = id_numbered (kind_from k.second) k.first

abbrev pub size_at : List Object → Id → ℕ
size_at objects id = size_of (object_at objects id)
