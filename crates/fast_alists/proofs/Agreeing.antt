-- Tables that agree with an arena.
use Rattle.std.proofs.Common.{◌≡◌, ◌∙◌, ap, sym, refl, subst, Bool, true, false, cond, List, [], Option, Some, None, Result, Ok, Err, OnOk, IsErr, IfSome, IsSome, is_some, true≢false, arith, ◌+◌, inl, inr}
use Rattle.std.specs.Option.{option_map}
use Rattle.gl_logic.specs.Lists.{size_of}
use Rattle.gl_logic.specs.Object.{Object, Cons}
use Rattle.gl_logic.specs.declared.ids.NoMemory.{NoMemory}
use Rattle.hons_arena.specs.declared.id.Id.{Id}
use Rattle.hons_arena.specs.Held.{AddsCellsOf}
use Rattle.hons_arena.specs.Ids.{object_at, IsLive, IsIdOf}
use Rattle.hons_arena.proofs.Placing.{id_kept}
use Rattle.fast_alists.specs.declared.extend.Longer.{Longer}
use Rattle.fast_alists.specs.Alists.{first_pair}
use Rattle.hons_arena.specs.HashedIds.{id_eq}
use Rattle.fast_alists.specs.Latest.{HandsOn}
use Rattle.fast_alists.specs.Longer.{IsLonger}
use Rattle.fast_alists.specs.Tables.{pair_in, table_in, IsTable, HasTable, Agree, PutsPair, SetsTable, TakesOver}
use Rattle.hons_arena.proofs.HashedIds.{id_same, id_itself}
use Rattle.fast_alists.proofs.Pairs.{none_some, some_same, cond_true, cond_false}
use Rattle.fast_alists.proofs.Covering.{OneId, extended, lacks}

-- where live ids stay live, for the same objects
module _ (old new : List Object) (id_stays : (id : Id) → IsLive old id → IsIdOf new (object_at old id) id) where
  table_still : (alist : Id) (table : List (Id × Id)) → IsTable old alist table → IsTable new alist table
  table_still alist table t =
      let list = id_stays alist t.live in record {
        live = list.0;
        right = λ k p h.
            let f = t.right k p h in
            let key = id_stays k f.key_live in
            let pair = id_stays p f.pair_live in record {
              key_live = key.0;
              pair_live = pair.0;
              first = (λ i. first_pair (key.1 i) (list.1 i)) ∙ (f.first ∙ ap Some (sym pair.1));
            };
        whole = λ q. elim (t.whole q) [
          | inl h ↦ inl (record { id = h.id; pair = h.pair; held = h.held; is = (id_stays h.id (t.right h.id h.pair h.held).key_live).1 ∙ h.is })
          | inr e ↦ inr (ap (first_pair q) list.1 ∙ e)
        ];
      }

  pub tables_still : (tables : List (Id × List (Id × Id))) → Agree old tables → Agree new tables
  tables_still tables agree alist table h = table_still alist table (agree alist table h)

module _ (x : Object) (old new : List Object) (adds : AddsCellsOf x old new) where
  id_stays : (id : Id) → IsLive old id → IsIdOf new (object_at old id) id
  id_stays id live = id_kept x old new (object_at old id) id adds (live, refl)

  pub table_stays : (alist : Id) (table : List (Id × Id)) → IsTable old alist table → IsTable new alist table
  table_stays = table_still old new id_stays

  pub tables_stay : (tables : List (Id × List (Id × Id))) → Agree old tables → Agree new tables
  tables_stay = tables_still old new id_stays

-- ---- a table is set, or taken out
set_at : (objects : List Object) (alist id : Id) (given had : Option (List (Id × Id))) (b : Bool) → id_eq alist id ≡ b
    → ((t : List (Id × Id)) → given ≡ Some t → IsTable objects alist t) → ((t : List (Id × Id)) → had ≡ Some t → IsTable objects id t)
    → (t : List (Id × Id)) → cond b given had ≡ Some t → IsTable objects id t
set_at objects alist id given had true e f g t h = subst (λ (j : Id). IsTable objects j t) (id_same alist id e) (f t h)
set_at objects alist id given had false e f g t h = g t h

pub agree_set : (objects : List Object) (old new : List (Id × List (Id × Id))) (alist : Id) (given : Option (List (Id × Id))) → SetsTable old new alist given
    → ((t : List (Id × Id)) → given ≡ Some t → IsTable objects alist t) → Agree objects old → Agree objects new
agree_set objects old new alist given sets f agree id t h =
    set_at objects alist id given (table_in old id) (id_eq alist id) refl f (agree id) t (sym (sets id) ∙ h)

pub agree_taken : (objects : List Object) (old new : List (Id × List (Id × Id))) (alist : Id) → SetsTable old new alist None → Agree objects old → Agree objects new
agree_taken objects old new alist sets agree = agree_set objects old new alist None sets (λ t e. none_some t e) agree

pub agree_kept : (objects : List Object) (old new : List (Id × List (Id × Id))) (alist : Id) (table : List (Id × Id)) → SetsTable old new alist (Some table) → IsTable objects alist table → Agree objects old → Agree objects new
agree_kept objects old new alist table sets is agree = agree_set objects old new alist (Some table) sets (λ t e. subst (λ (u : List (Id × Id)). IsTable objects alist u) (some_same table t e) is) agree

pub agree_none : (objects : List Object) → Agree objects []
agree_none objects alist table h = none_some table h

pub has_table : (old new : List (Id × List (Id × Id))) (alist : Id) (table : List (Id × Id)) → SetsTable old new alist (Some table) → HasTable new alist
has_table old new alist table sets = (table, sets alist ∙ cond_true (id_eq alist alist) (Some table) (table_in old alist) (id_itself alist))

-- ---- answers
pub on_ok_then : {T E : Type 0} {P Q : Type 0} (r : Result T E) → (P → Q) → OnOk r P → OnOk r Q
on_ok_then (Ok x) f h = f h
on_ok_then (Err e) f h = tt

get_at : (objects : List Object) (same : OneId objects) (alist key : Id) (table : List (Id × Id)) → IsTable objects alist table → IsLive objects key → (r : Option Id) → pair_in table key ≡ r
    → (option_map (object_at objects) r ≡ first_pair (object_at objects key) (object_at objects alist)) × IfSome r (IsLive objects)
get_at objects same alist key table t live None e = (sym (lacks objects same alist key table t live e), tt)
get_at objects same alist key table t live (Some p) e = let f = t.right key p e in (sym f.first, f.pair_live)

pub get_from : (objects : List Object) (same : OneId objects) (alist key : Id) (table : List (Id × Id)) → IsTable objects alist table → IsLive objects key → (r : Option Id) → r ≡ pair_in table key
    → (option_map (object_at objects) r ≡ first_pair (object_at objects key) (object_at objects alist)) × IfSome r (IsLive objects)
get_from objects same alist key table t live r e = get_at objects same alist key table t live r (sym e)

-- ---- a table goes over
pub no_table : (old new : List (Id × List (Id × Id))) (alist : Id) → SetsTable old new alist None → HasTable new alist → ⊥
no_table old new alist sets h = none_some h.0 (sym (sets alist ∙ cond_true (id_eq alist alist) None (table_in old alist) (id_itself alist)) ∙ h.1)

-- a table of another list changes nothing
pub no_table_still : (old new : List (Id × List (Id × Id))) (alist longer : Id) (table : List (Id × Id)) → (longer ≡ alist → ⊥) → SetsTable old new longer (Some table) → (HasTable old alist → ⊥) → HasTable new alist → ⊥
no_table_still old new alist longer table other sets none h = by (id_eq longer alist) refl where
  by : (b : Bool) → id_eq longer alist ≡ b → ⊥
  by true e = other (id_same longer alist e)
  by false e = none (h.0, sym (sets alist ∙ cond_false (id_eq longer alist) (Some table) (table_in old alist) e) ∙ h.1)

-- a longer list is another one
pub is_other : (objects : List Object) (longer alist : Id) (x : Object) → object_at objects longer ≡ Cons x (object_at objects alist) → longer ≡ alist → ⊥
is_other objects longer alist x is e =
    let q : size_of (object_at objects alist) ≡ size_of x + size_of (object_at objects alist) + 1 = ap (λ (i : Id). size_of (object_at objects i)) (sym e) ∙ ap size_of is in omega (arith, q)

pub some_is : {A : Type 0} (o : Option A) → o ≡ None → IsSome o → ⊥
some_is o e h = true≢false (sym h ∙ ap is_some e)

pub has_some : (tables : List (Id × List (Id × Id))) (alist : Id) (o : Option (List (Id × Id))) → o ≡ table_in tables alist → HasTable tables alist → IsSome o
has_some tables alist o e h = ap is_some (e ∙ h.1)

pub taken_over : (old middle new : List (Id × List (Id × Id))) (objects : List Object) (alist longer : Id) (x : Object) (table : List (Id × Id)) → object_at objects longer ≡ Cons x (object_at objects alist) → (HasTable middle alist → ⊥) → SetsTable middle new longer (Some table)
    → TakesOver {E = NoMemory} old new alist (Ok longer)
taken_over old middle new objects alist longer x table is none sets = record {
  taken = λ _. has_table middle new longer table sets;
  left = no_table_still middle new alist longer table (is_other objects longer alist x is) sets none;
}

pub not_taken : (old new : List (Id × List (Id × Id))) (alist longer : Id) → (HasTable old alist → ⊥) → (HasTable new alist → ⊥) → TakesOver {E = NoMemory} old new alist (Ok longer)
not_taken old new alist longer none left = record { taken = λ h. absurd (none h); left = left }

pub takes_err : {E : Type 0} (old new : List (Id × List (Id × Id))) (alist : Id) (answer : Result Id E) → IsErr answer → TakesOver old new alist answer
takes_err old new alist (Ok id) e = absurd cc
takes_err old new alist (Err f) e = record { taken = λ h. tt; left = tt }

pub takes_again : {E F : Type 0} (old new : List (Id × List (Id × Id))) (alist : Id) (id : Id) → TakesOver {E = E} old new alist (Ok id) → TakesOver {E = F} old new alist (Ok id)
takes_again old new alist id t = record { taken = t.taken; left = t.left }

-- ---- a table is handed on
module _ (objects : List Object) (key alist : Id) (longer : Longer) (is : IsLonger objects key alist longer) where
  -- the table that got the pair is the longer list's
  pub table_of_longer : (same : OneId objects) (table after : List (Id × Id)) → PutsPair table after key longer.pair → IsTable objects alist table → IsTable objects longer.list after
  table_of_longer same table after put t = extended objects same table after key longer.pair put is.key_live is.pair_live is.value is.pair alist longer.list is.list_live is.list t

  module _ (old new : List (Id × List (Id × Id))) (hands : HandsOn old new alist longer.list key longer.pair) where
    pub agree_handed : (same : OneId objects) → Agree objects old → Agree objects new
    agree_handed same agree =
        let table = table_of_longer same hands.table hands.after hands.put (agree alist hands.table hands.was) in
        agree_kept objects hands.between new longer.list hands.after hands.kept table (agree_taken objects old hands.between alist hands.taken agree)

    pub handed_over : TakesOver {E = NoMemory} old new alist (Ok longer.list)
    handed_over = taken_over old hands.between new objects alist longer.list (object_at objects longer.pair) hands.after is.list (no_table old hands.between alist hands.taken) hands.kept

-- no list has a table
pub none_agree : (objects : List Object) (tables : List (Id × List (Id × Id))) → tables ≡ [] → Agree objects tables
none_agree objects tables none alist table e = none_some table (sym (ap (λ ts. table_in ts alist) none) ∙ e)
