-- The table that was kept last, beside the others.
use Rattle.std.specs.Prelude.{◌≡◌, List, ◌∷◌, Option, None, Some, IfSome}
use Rattle.hons_arena.specs.declared.id.Id.{Id}
use Rattle.fast_alists.specs.declared.tables.Latest.{Latest}
use Rattle.fast_alists.specs.Tables.{table_in, PutsPair, SetsTable}

-- all tables, the latest in front
abbrev pub in_front : Option Latest → List (Id × List (Id × Id)) → List (Id × List (Id × Id))
in_front None others = others
in_front (Some latest) others = (latest.list, latest.table) ∷ others

-- the others have no table of the latest one's list
abbrev pub OthersLack : Option Latest → List (Id × List (Id × Id)) → Type 0
OthersLack latest others = IfSome latest (λ l. table_in others l.list ≡ None)

-- each list has the same table in both
abbrev pub SameTables : List (Id × List (Id × Id)) → List (Id × List (Id × Id)) → Type 0
SameTables tables others = (list : Id) → table_in others list ≡ table_in tables list

-- the list's table is taken out, gets the pair, and is put in as the longer list's
pub record HandsOn (old new : List (Id × List (Id × Id))) (list longer key pair : Id) : Type 0 where
  pub table : List (Id × Id)
  pub after : List (Id × Id)
  pub between : List (Id × List (Id × Id))
  pub was : table_in old list ≡ Some table
  pub put : PutsPair table after key pair
  pub taken : SetsTable old between list None
  pub kept : SetsTable between new longer (Some after)
