-- Tables of lists, and what it is for them to agree with an arena.
use Rattle.std.specs.Prelude.{◌≡◌, List, Option, None, Some, Result, IfOk, OnOk, cond, ◌⊎◌}
use Rattle.std.specs.Map.{lookup}
use Rattle.gl_logic.specs.Object.{Object, Cons}
use Rattle.hons_arena.specs.declared.id.Id.{Id}
use Rattle.hons_arena.specs.Held.{AddsCellsOf}
use Rattle.hons_arena.specs.Ids.{object_at, IsLive, ArePartsOf}
use Rattle.fast_alists.specs.Alists.{first_pair}
use Rattle.hons_arena.specs.HashedIds.{id_eq}

-- the pair that a table has for a key
abbrev pub pair_in : List (Id × Id) → Id → Option Id
pair_in table key = lookup (id_eq key) table

-- the table of a list
abbrev pub table_in : List (Id × List (Id × Id)) → Id → Option (List (Id × Id))
table_in tables alist = lookup (id_eq alist) tables

-- the list has a table
abbrev pub HasTable : List (Id × List (Id × Id)) → Id → Type 0
HasTable tables alist = (table : List (Id × Id)) × (table_in tables alist ≡ Some table)

-- the pair is the list's first with this key
pub record IsFirst (objects : List Object) (list : Object) (key pair : Id) : Type 0 where
  pub key_live : IsLive objects key
  pub pair_live : IsLive objects pair
  pub first : first_pair (object_at objects key) list ≡ Some (object_at objects pair)

-- the table has a pair for the id of this key
pub record HasKeyOf (objects : List Object) (table : List (Id × Id)) (key : Object) : Type 0 where
  pub id : Id
  pub pair : Id
  pub held : pair_in table id ≡ Some pair
  pub is : object_at objects id ≡ key

-- a table answers as its list does: each pair in it is the list's first with its key, and a key that it lacks is no
-- pair's of the list
pub record IsTable (objects : List Object) (alist : Id) (table : List (Id × Id)) : Type 0 where
  pub live : IsLive objects alist
  pub right : (key pair : Id) → pair_in table key ≡ Some pair → IsFirst objects (object_at objects alist) key pair
  pub whole : (key : Object) → HasKeyOf objects table key ⊎ (first_pair key (object_at objects alist) ≡ None)

-- the same while the table is made: the rest of the list is still to be looked at
pub record Covers (objects : List Object) (list rest : Object) (table : List (Id × Id)) : Type 0 where
  pub right : (key pair : Id) → pair_in table key ≡ Some pair → IsFirst objects list key pair
  pub later : (key : Object) → HasKeyOf objects table key ⊎ (first_pair key list ≡ first_pair key rest)

-- a table in which an element is noted covers one element more
abbrev pub Notes : List Object → Id → List (Id × Id) → List (Id × Id) → Type 0
Notes objects element old new = (list rest : Object) → Covers objects list (Cons (object_at objects element) rest) old → Covers objects list rest new

-- the ids of the two parts of a cons
abbrev pub HasParts : List Object → Id → Id × Id → Type 0
HasParts objects id p = ArePartsOf objects (object_at objects id) p.0 p.1

-- each id in the tables is live, and each table answers as its list does
abbrev pub Agree : List Object → List (Id × List (Id × Id)) → Type 0
Agree objects tables = (alist : Id) (table : List (Id × Id)) → table_in tables alist ≡ Some table → IsTable objects alist table

-- whatever cells of an object are added, the tables agree still
abbrev pub StayAgreed : List (Id × List (Id × Id)) → Type 0
StayAgreed tables = (x : Object) (old new : List Object) → AddsCellsOf x old new → Agree old tables → Agree new tables

-- ---- how tables change
-- the key has that pair from then on, and each other key what it had
abbrev pub PutsPair : List (Id × Id) → List (Id × Id) → Id → Id → Type 0
PutsPair old new key pair = (k : Id) → pair_in new k ≡ cond (id_eq key k) (Some pair) (pair_in old k)

-- the list has that table from then on, or none, and each other list what it had
abbrev pub SetsTable : List (Id × List (Id × Id)) → List (Id × List (Id × Id)) → Id → Option (List (Id × Id)) → Type 0
SetsTable old new alist table = (id : Id) → table_in new id ≡ cond (id_eq alist id) table (table_in old id)

-- an extension of the list is the answer: it has the table that the list had, and the list has none
pub record TakesOver {E : Type 0} (old new : List (Id × List (Id × Id))) (alist : Id) (answer : Result Id E) : Type 0 where
  pub taken : HasTable old alist → IfOk answer (HasTable new)
  pub left : OnOk answer (¬ HasTable new alist)
