-- The latest table and the others.
use Rattle.std.proofs.Common.{◌≡◌, ◌∙◌, ap, sym, refl, Bool, true, false, cond, List, ◌∷◌, Option, Some, None, IfSome}
use Rattle.gl_logic.specs.Object.{Object}
use Rattle.hons_arena.specs.declared.id.Id.{Id}
use Rattle.fast_alists.specs.declared.tables.Latest.{Latest}
use Rattle.hons_arena.specs.HashedIds.{id_eq, id_equiv}
use Rattle.fast_alists.specs.Latest.{in_front, HandsOn, OthersLack, SameTables}
use Rattle.fast_alists.specs.Tables.{table_in, Agree, PutsPair, SetsTable}
use Rattle.hons_arena.proofs.HashedIds.{id_same, id_itself}
use Rattle.fast_alists.proofs.Pairs.{none_some, cond_true, cond_false}

-- ---- a table is taken out
-- the list has none
pub sets_none : (tables : List (Id × List (Id × Id))) (list : Id) → table_in tables list ≡ None → SetsTable tables tables list None
sets_none tables list e id = by (id_eq list id) refl where
  by : (b : Bool) → id_eq list id ≡ b → table_in tables id ≡ cond (id_eq list id) None (table_in tables id)
  by true q = ap (table_in tables) (sym (id_same list id q)) ∙ (e ∙ sym (cond_true (id_eq list id) None (table_in tables id) q))
  by false q = sym (cond_false (id_eq list id) None (table_in tables id) q)

-- it is the latest
pub sets_first : (latest : Latest) (others : List (Id × List (Id × Id))) (list : Id) → id_eq list latest.list ≡ true → table_in others latest.list ≡ None → SetsTable ((latest.list, latest.table) ∷ others) others list None
sets_first latest others list e alone id = by (id_eq list id) refl where
  is : list ≡ latest.list
  is = id_same list latest.list e

  by : (b : Bool) → id_eq list id ≡ b → table_in others id ≡ cond (id_eq list id) None (table_in ((latest.list, latest.table) ∷ others) id)
  by true q = ap (table_in others) (sym (id_same list id q) ∙ is) ∙ (alone ∙ sym (cond_true (id_eq list id) None (table_in ((latest.list, latest.table) ∷ others) id) q))
  by false q =
      let differs : id_eq id latest.list ≡ false = ap (id_eq id) (sym is) ∙ (id_equiv.symm id list ∙ q) in
      sym (cond_false (id_eq list id) None (table_in ((latest.list, latest.table) ∷ others) id) q ∙ cond_false (id_eq id latest.list) (Some latest.table) (table_in others id) differs)

-- it is another
pub sets_other : (latest : Option Latest) (old new : List (Id × List (Id × Id))) (list : Id) → IfSome latest (λ l. id_eq list l.list ≡ false) → SetsTable old new list None → SetsTable (in_front latest old) (in_front latest new) list None
sets_other None old new list other sets = sets
sets_other (Some l) old new list other sets = λ id. by id (id_eq id l.list) refl where
  by : (id : Id) (b : Bool) → id_eq id l.list ≡ b → table_in ((l.list, l.table) ∷ new) id ≡ cond (id_eq list id) None (table_in ((l.list, l.table) ∷ old) id)
  by id true q =
      let differs : id_eq list id ≡ false = ap (id_eq list) (id_same id l.list q) ∙ other in
      cond_true (id_eq id l.list) (Some l.table) (table_in new id) q ∙ sym (cond_false (id_eq list id) None (table_in ((l.list, l.table) ∷ old) id) differs ∙ cond_true (id_eq id l.list) (Some l.table) (table_in old id) q)
  by id false q =
      cond_false (id_eq id l.list) (Some l.table) (table_in new id) q ∙ (sets id ∙ ap (cond (id_eq list id) None) (sym (cond_false (id_eq id l.list) (Some l.table) (table_in old id) q)))

-- ---- a table is kept
-- the latest one goes to the others
pub same_put : (latest : Latest) (old new : List (Id × List (Id × Id))) → SetsTable old new latest.list (Some latest.table) → SameTables ((latest.list, latest.table) ∷ old) new
same_put latest old new sets list = sets list ∙ ap (λ b. cond b (Some latest.table) (table_in old list)) (id_equiv.symm latest.list list)

-- the others have no table of a list whose table was taken
pub others_lack : (old taken others : List (Id × List (Id × Id))) (list : Id) → SetsTable old taken list None → SameTables taken others → table_in others list ≡ None
others_lack old taken others list sets same = same list ∙ (sets list ∙ cond_true (id_eq list list) None (table_in old list) (id_itself list))

-- a table that is put in front of tables without one of its list
pub sets_latest : (old taken others : List (Id × List (Id × Id))) (list : Id) (table : List (Id × Id)) → SetsTable old taken list None → SameTables taken others → SetsTable old ((list, table) ∷ others) list (Some table)
sets_latest old taken others list table sets same id = by (id_eq list id) refl where
  by : (b : Bool) → id_eq list id ≡ b → table_in ((list, table) ∷ others) id ≡ cond (id_eq list id) (Some table) (table_in old id)
  by true e = cond_true (id_eq id list) (Some table) (table_in others id) (id_equiv.symm id list ∙ e) ∙ sym (cond_true (id_eq list id) (Some table) (table_in old id) e)
  by false e =
      let had : table_in others id ≡ table_in old id = same id ∙ (sets id ∙ cond_false (id_eq list id) None (table_in old id) e) in
      cond_false (id_eq id list) (Some table) (table_in others id) (id_equiv.symm id list ∙ e) ∙ (had ∙ sym (cond_false (id_eq list id) (Some table) (table_in old id) e))

-- the latest table goes to the longer list, of which the others have none then
pub hands_on : (latest : Latest) (others left : List (Id × List (Id × Id))) (list longer key pair : Id) (after : List (Id × Id)) → id_eq list latest.list ≡ true → table_in others latest.list ≡ None → PutsPair latest.table after key pair → SetsTable others left longer None
    → HandsOn ((latest.list, latest.table) ∷ others) ((longer, after) ∷ left) list longer key pair
hands_on latest others left list longer key pair after same alone put drops = record {
  table = latest.table;
  after = after;
  between = others;
  was = cond_true (id_eq list latest.list) (Some latest.table) (table_in others list) same;
  put = put;
  taken = sets_first latest others list same alone;
  kept = sets_latest others left left longer after drops (λ id. refl);
}

-- a table beside the latest one is of another list
lacks_latest : (latest : Latest) (others : List (Id × List (Id × Id))) (list : Id) (table : List (Id × Id)) → table_in others latest.list ≡ None → table_in others list ≡ Some table → id_eq list latest.list ≡ false
lacks_latest latest others list table alone h = by (id_eq list latest.list) refl where
  by : (b : Bool) → id_eq list latest.list ≡ b → id_eq list latest.list ≡ false
  by true e = none_some table (sym alone ∙ (ap (table_in others) (sym (id_same list latest.list e)) ∙ h))
  by false e = e

-- without the latest table the others agree as all did
pub agree_others : (objects : List Object) (latest : Option Latest) (others : List (Id × List (Id × Id))) → OthersLack latest others → Agree objects (in_front latest others) → Agree objects others
agree_others objects None others alone agree = agree
agree_others objects (Some l) others alone agree = λ list table h.
    agree list table (cond_false (id_eq list l.list) (Some l.table) (table_in others list) (lacks_latest l others list table alone h) ∙ h)
