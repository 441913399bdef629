-- What an id stands for in an arena, which holds an object in each cell.
use Rattle.std.specs.Prelude.{◌≡◌, ℕ, ◌<◌, List, length, get_or}
use Rattle.gl_logic.specs.Lists.{IsAtom}
use Rattle.gl_logic.specs.Object.{Object, nil, car, cdr}
use Rattle.gl_logic.specs.Object as object
use Rattle.hons_arena.specs.declared.id.Id.{Id}
use Rattle.hons_arena.specs.declared.id.Id.TheVariants as id
use Rattle.hons_arena.specs.declared.id.IdKind.{IdKind}
use Rattle.hons_arena.specs.declared.id.IdKind.TheVariants as id_kind
use Rattle.hons_arena.specs.declared.id.Kind.{Kind}
use Rattle.hons_arena.specs.declared.id.Kind.TheVariants as kind

-- what an id's number counts
abbrev pub kind_in : Id → IdKind
kind_in (id.Symbol t) = id_kind.Symbol
kind_in (id.Text t) = id_kind.Text
kind_in (id.Cell n) = id_kind.Cell

-- its number
abbrev pub number_in : Id → ℕ
number_in (id.Symbol t) = t.number
number_in (id.Text t) = t.number
number_in (id.Cell n) = n

-- the id of a kind and a number
abbrev pub id_numbered : IdKind → ℕ → Id
id_numbered id_kind.Symbol n = id.Symbol (record { number = n })
id_numbered id_kind.Text n = id.Text (record { number = n })
id_numbered id_kind.Cell n = id.Cell n

abbrev pub object_numbered : List Object → IdKind → ℕ → Object
object_numbered objects id_kind.Symbol n = object.Symbol n
object_numbered objects id_kind.Text n = object.Text n
object_numbered objects id_kind.Cell n = get_or objects n nil

-- the object that an id stands for
abbrev pub object_at : List Object → Id → Object
object_at objects i = object_numbered objects (kind_in i) (number_in i)

abbrev pub IsNumberBelow : ℕ → IdKind → ℕ → Type 0
IsNumberBelow count id_kind.Symbol n = Unit {0}
IsNumberBelow count id_kind.Text n = Unit {0}
IsNumberBelow count id_kind.Cell n = n < count

-- an id of a symbol or a string, or of one of the first cells, so many
abbrev pub IsBelow : ℕ → Id → Type 0
IsBelow count i = IsNumberBelow count (kind_in i) (number_in i)

-- the id stands for something: that of a cell where the cell is held
abbrev pub IsLive : List Object → Id → Type 0
IsLive objects i = IsBelow (length objects) i

-- a live id that stands for this object
abbrev pub IsIdOf : List Object → Object → Id → Type 0
IsIdOf objects x i = IsLive objects i × (object_at objects i ≡ x)

-- what an object is
abbrev pub kind_of : Object → Kind
kind_of (object.Int z) = kind.Int z
kind_of (object.Character n) = kind.Character n
kind_of (object.Symbol n) = kind.Symbol (record { number = n })
kind_of (object.Text n) = kind.Text (record { number = n })
kind_of (object.Cons a d) = kind.Cons

-- an object that is no cons has no parts, a cons has these two
abbrev pub HasNoParts : Object → Type 0
HasNoParts x = IsAtom x × (car x ≡ nil) × (cdr x ≡ nil)

pub record ArePartsOf (objects : List Object) (x : Object) (a d : Id) : Type 0 where
  pub first : IsIdOf objects (car x) a
  pub rest : IsIdOf objects (cdr x) d
  pub whole : x ≡ object.Cons (car x) (cdr x)
