-- Lists that are made cons by cons.
use Rattle.std.proofs.Common.{◌≡◌, ◌∙◌, ap, sym, refl, subst, cond, is_some, Bool, true, false, List, Result, Ok, Err, IsErr, IsErrOf, inl, inr, arith, ◌<◌}
use Rattle.gl_logic.specs.Lists.{IsAtom, size_of}
use Rattle.gl_logic.specs.Object.{Object, Int, Character, Symbol, Text, Cons, car, cdr}
use Rattle.hons_arena.specs.declared.id.Id.{Id}
use Rattle.hons_arena.specs.declared.id.Full.{Full}
use Rattle.hons_arena.specs.Held.{Held, IsWhole, Interns, AddsCellsOf, Enters, HasNoCell, HasNoRoomFor}
use Rattle.hons_arena.specs.Ids.{object_at, IsLive, IsIdOf, ArePartsOf}
use Rattle.hons_arena.proofs.CellsIn.{IsPart, cell_of}
use Rattle.hons_arena.proofs.Placing.{part_self, adds_none, adds_more, adds_weaker, adds_entered, id_kept, too_many, lacks_weaker}
use Rattle.fast_alists.specs.Alists.{first_pair, with_pair, forked}
use Rattle.fast_alists.specs.declared.extend.Longer.{Longer}
use Rattle.fast_alists.specs.Longer.{longer_object, Extends}
use Rattle.fast_alists.specs.declared.fault.AlistFault.{AlistFault}
use Rattle.fast_alists.specs.declared.fault.AlistFault.TheVariants as fault
use Rattle.fast_alists.specs.Makes.{IsStuck, Makes, GoesOn}
use Rattle.fast_alists.specs.Tables.{IsTable, PutsPair}
use Rattle.fast_alists.proofs.Agreeing.{table_stays}
use Rattle.fast_alists.proofs.Covering.{extended_parts, parts_are, rest_smaller}

-- ---- parts
pub front_part : (a d y : Object) → IsPart y a → IsPart y (Cons a d)
front_part a d y h = inr (inl h)

pub rest_part : (a d y : Object) → IsPart y d → IsPart y (Cons a d)
rest_part a d y h = inr (inr h)

cond_part : (b : Bool) (x ans y : Object) → IsPart y ans → IsPart y (cond b ans (Cons x ans))
cond_part true x ans y h = h
cond_part false x ans y h = inr (inr h)

with_pair_part : (x ans y : Object) → IsPart y ans → IsPart y (with_pair x ans)
with_pair_part (Int z) ans y h = h
with_pair_part (Character n) ans y h = h
with_pair_part (Symbol n) ans y h = h
with_pair_part (Text n) ans y h = h
with_pair_part (Cons k v) ans y h = cond_part (is_some (first_pair k ans)) (Cons k v) ans y h

-- what is a part of the answer so far is one of the answer
pub forked_part : (list ans y : Object) → IsPart y ans → IsPart y (forked list ans)
forked_part (Int z) ans y h = h
forked_part (Character n) ans y h = h
forked_part (Symbol n) ans y h = h
forked_part (Text n) ans y h = h
forked_part (Cons x rest) ans y h = forked_part rest (with_pair x ans) y (with_pair_part x ans y h)

-- ---- forks
pub forked_atom : (list ans : Object) → IsAtom list → forked list ans ≡ ans
forked_atom (Int z) ans h = refl
forked_atom (Character n) ans h = refl
forked_atom (Symbol n) ans h = refl
forked_atom (Text n) ans h = refl
forked_atom (Cons a d) ans h = absurd h

pub with_atom : (x ans : Object) → IsAtom x → with_pair x ans ≡ ans
with_atom (Int z) ans h = refl
with_atom (Character n) ans h = refl
with_atom (Symbol n) ans h = refl
with_atom (Text n) ans h = refl
with_atom (Cons a d) ans h = absurd h

-- ---- cells
-- a cons of the object finds no room
pub stuck_at : (held : Held) (a d x : Object) → ((y : Object) → IsPart y (Cons a d) → IsPart y x) → HasNoCell held (Cons a d) → IsWhole held → IsStuck held x
stuck_at held a d x up none whole = record {
  lacks = record { lacking = Cons a d; cell = cell_of x (Cons a d) refl (up (Cons a d) (part_self (Cons a d))); none = none };
  whole = whole;
}

pub stuck_weaker : (held : Held) (x w : Object) → ((y : Object) → IsPart y x → IsPart y w) → IsStuck held x → IsStuck held w
stuck_weaker held x w up s = record { lacks = lacks_weaker held x w up s.lacks; whole = s.whole }

pub no_room : (old new : Held) (x : Object) → AddsCellsOf x old.objects new.objects → new.limit ≡ old.limit → IsStuck new x → HasNoRoomFor old x
no_room old new x adds limit s = too_many old new x adds limit s.whole.different s.lacks

pub entered_adds : (old new : List Object) (a d x : Object) → ((y : Object) → IsPart y (Cons a d) → IsPart y x) → Enters old new (Cons a d) → AddsCellsOf x old new
entered_adds old new a d x up e = adds_entered x (Cons a d) old new refl (up (Cons a d) (part_self (Cons a d))) e

-- ---- a cons that is asked for
module _ (old new : Held) (a d x : Object) (up : (y : Object) → IsPart y (Cons a d) → IsPart y x) where
  pub interns_adds : (r : Result Id Full) → Interns old new (Cons a d) r → AddsCellsOf x old.objects new.objects
  interns_adds (Ok id) i = entered_adds old.objects new.objects a d x up i.objects
  interns_adds (Err e) i = subst (λ (h : Held). AddsCellsOf x old.objects h.objects) (sym i.unchanged) (adds_none x old.objects)

  pub interns_stuck : (r : Result Id Full) → IsErr r → Interns old new (Cons a d) r → IsStuck new x
  interns_stuck (Ok id) h i = absurd cc
  interns_stuck (Err e) h i = stuck_at new a d x up (subst (λ (k : Held). HasNoCell k (Cons a d)) (sym i.unchanged) (i.full.0 refl)) i.whole

-- an object that was there is as it was
pub object_stays : (x : Object) (old new : List Object) (id : Id) → AddsCellsOf x old new → IsLive old id → IsIdOf new (object_at old id) id
object_stays x old new id adds live = id_kept x old new (object_at old id) id adds (live, refl)

-- ---- a longer list
module _ (first second third : Held) (key value alist pair : Id) (key_live : IsLive first.objects key) (value_live : IsLive first.objects value) (alist_live : IsLive first.objects alist) where
  abbrev k : Object
  k = object_at first.objects key

  abbrev v : Object
  v = object_at first.objects value

  abbrev x : Object
  x = longer_object first.objects key value alist

  in_front : (y : Object) → IsPart y (Cons k v) → IsPart y x
  in_front y h = inr (inl h)

  pub extends_err : (r : Result Id Full) (answer : Result Longer Full) → IsErr r → IsErr answer → Interns first second (Cons k v) r → Extends first second key value alist answer
  extends_err r (Ok l) h g i = absurd cc
  extends_err r (Err e) h g i = record {
    longer = tt;
    is = tt;
    objects = interns_adds first second k v x in_front r i;
    limit = i.limit;
    whole = i.whole;
    full = λ _. no_room first second x (interns_adds first second k v x in_front r i) i.limit (interns_stuck first second k v x in_front r h i);
  }

  module _ (i : Interns first second (Cons k v) (Ok pair)) where
    adds : AddsCellsOf x first.objects second.objects
    adds = interns_adds first second k v x in_front (Ok pair) i

    alist_is : IsIdOf second.objects (object_at first.objects alist) alist
    alist_is = object_stays x first.objects second.objects alist adds alist_live

    key_is : IsIdOf second.objects k key
    key_is = object_stays x first.objects second.objects key adds key_live

    pub alist_lives : IsLive second.objects alist
    alist_lives = alist_is.0

    list_is : Cons (object_at second.objects pair) (object_at second.objects alist) ≡ x
    list_is j = Cons (i.id.1 j) (alist_is.1 j)

    module _ (r : Result Id Full) (n : Interns second third (Cons (object_at second.objects pair) (object_at second.objects alist)) r) where
      whole_up : (y : Object) → IsPart y (Cons (object_at second.objects pair) (object_at second.objects alist)) → IsPart y x
      whole_up y h = subst (λ (z : Object). IsPart y z) list_is h

      more : AddsCellsOf x second.objects third.objects
      more = interns_adds second third _ _ x whole_up r n

      all : AddsCellsOf x first.objects third.objects
      all = adds_more x first.objects second.objects third.objects adds more

      pub extends_second : (answer : Result Longer Full) → IsErr r → IsErr answer → Extends first third key value alist answer
      extends_second (Ok l) h g = absurd cc
      extends_second (Err e) h g = record {
        longer = tt;
        is = tt;
        objects = all;
        limit = n.limit ∙ i.limit;
        whole = n.whole;
        full = λ _. no_room first third x all (n.limit ∙ i.limit) (interns_stuck second third _ _ x whole_up r h n);
      }

    pub extends_ok : (list : Id) → Interns second third (Cons (object_at second.objects pair) (object_at second.objects alist)) (Ok list) → Extends first third key value alist (Ok (record { pair = pair; list = list }))
    extends_ok list n =
        let more_cells = more (Ok list) n in
        let pair_now = object_stays x second.objects third.objects pair more_cells i.id.0 in
        let key_now = object_stays x second.objects third.objects key more_cells key_is.0 in
        let alist_now = object_stays x second.objects third.objects alist more_cells alist_is.0 in record {
          longer = record {
            key_live = key_now.0;
            alist_live = alist_now.0;
            pair_live = pair_now.0;
            list_live = n.id.0;
            value = v;
            pair = pair_now.1 ∙ (i.id.1 ∙ ap (λ z. Cons z v) (sym key_is.1 ∙ sym key_now.1));
            list = n.id.1 ∙ (λ j. Cons (sym pair_now.1 j) (sym alist_now.1 j));
          };
          is = n.id.1 ∙ list_is;
          objects = all (Ok list) n;
          limit = n.limit ∙ i.limit;
          whole = n.whole;
          full = λ h. absurd cc;
        }

-- ---- answers
pub makes_err : (old new : Held) (x : Object) (answer : Result Id AlistFault) → IsErr answer → AddsCellsOf x old.objects new.objects → new.limit ≡ old.limit → (IsErrOf answer fault.Full → HasNoRoomFor old x) → Makes old new x answer
makes_err old new x (Ok id) e adds limit full = absurd cc
makes_err old new x (Err f) e adds limit full = record { id = tt; objects = adds; limit = limit; full = full }

pub makes_ok : (old new : Held) (x : Object) (id : Id) → IsIdOf new.objects x id → AddsCellsOf x old.objects new.objects → new.limit ≡ old.limit → Makes old new x (Ok id)
makes_ok old new x id is adds limit = record { id = is; objects = adds; limit = limit; full = λ e. absurd cc }

abbrev the_fault : AlistFault → Result Id AlistFault
the_fault f = Err f

memory_full : {P : Type 0} → the_fault fault.Memory ≡ Err fault.Full → P
memory_full e = absurd cc

pub not_full : {P : Type 0} (answer : Result Id AlistFault) → answer ≡ Err fault.Memory → IsErrOf answer fault.Full → P
not_full answer e f = memory_full (sym e ∙ f)

-- the answer of what goes on, as that of the whole
pub makes_gone_on : (old new : Held) (x : Object) (r answer : Result Id AlistFault) → GoesOn old new x r → IsErr answer → (IsErrOf answer fault.Full → IsErrOf r fault.Full) → Makes old new x answer
makes_gone_on old new x r answer g e up = makes_err old new x answer e g.objects g.limit (λ f. no_room old new x g.objects g.limit (g.stuck (up f)))

-- ---- a pair put in front
pub goes_known : (old : Held) (element ans : Id) → with_pair (object_at old.objects element) (object_at old.objects ans) ≡ object_at old.objects ans → IsLive old.objects ans
    → GoesOn old old (with_pair (object_at old.objects element) (object_at old.objects ans)) (Ok ans)
goes_known old element ans e live = record { id = (live, sym e); objects = adds_none (with_pair (object_at old.objects element) (object_at old.objects ans)) old.objects; limit = refl; stuck = λ f. absurd cc }

module _ (old new : Held) (element ans : Id) (r : Result Id Full) (i : Interns old new (Cons (object_at old.objects element) (object_at old.objects ans)) r)
    (is : with_pair (object_at old.objects element) (object_at old.objects ans) ≡ Cons (object_at old.objects element) (object_at old.objects ans)) where
  abbrev whole : Object
  whole = with_pair (object_at old.objects element) (object_at old.objects ans)

  itself : (y : Object) → IsPart y (Cons (object_at old.objects element) (object_at old.objects ans)) → IsPart y whole
  itself y h = subst (λ (z : Object). IsPart y z) (sym is) h

  pub put_adds : AddsCellsOf whole old.objects new.objects
  put_adds = interns_adds old new (object_at old.objects element) (object_at old.objects ans) whole itself r i

  pub goes_err : (answer : Result Id AlistFault) → IsErr answer → (IsErrOf answer fault.Full → IsErr r) → GoesOn old new whole answer
  goes_err (Ok id) e f = absurd cc
  goes_err (Err g) e f = record { id = tt; objects = put_adds; limit = i.limit; stuck = λ h. interns_stuck old new (object_at old.objects element) (object_at old.objects ans) whole itself r (f h) i }

pub goes_put : (old new : Held) (element ans id : Id) → Interns old new (Cons (object_at old.objects element) (object_at old.objects ans)) (Ok id)
    → with_pair (object_at old.objects element) (object_at old.objects ans) ≡ Cons (object_at old.objects element) (object_at old.objects ans) → GoesOn old new (with_pair (object_at old.objects element) (object_at old.objects ans)) (Ok id)
goes_put old new element ans id i is = record { id = (i.id.0, i.id.1 ∙ sym is); objects = put_adds old new element ans (Ok id) i is; limit = i.limit; stuck = λ f. absurd cc }

pub parts_stay : (x : Object) (old new : List Object) (id a d : Id) → AddsCellsOf x old new → IsLive old id → ArePartsOf old (object_at old id) a d → ArePartsOf new (object_at new id) a d
parts_stay x old new id a d adds live p =
    let is = object_stays x old new id adds live in
    let first = object_stays x old new a adds p.first.0 in
    let rest = object_stays x old new d adds p.rest.0 in
    let at = sym is.1 in record {
      first = (first.0, first.1 ∙ (p.first.1 ∙ ap car at));
      rest = (rest.0, rest.1 ∙ (p.rest.1 ∙ ap cdr at));
      whole = is.1 ∙ (p.whole ∙ ap (λ z. Cons (car z) (cdr z)) at);
    }

-- the table of the longer list, in the arena that has it
pub put_table : (old new : Held) (element key rest ans id : Id) → (i : Interns old new (Cons (object_at old.objects element) (object_at old.objects ans)) (Ok id))
    → with_pair (object_at old.objects element) (object_at old.objects ans) ≡ Cons (object_at old.objects element) (object_at old.objects ans)
    → IsLive old.objects element → ArePartsOf old.objects (object_at old.objects element) key rest → (table table' : List (Id × Id)) → IsTable old.objects ans table → PutsPair table table' key element → IsTable new.objects id table'
put_table old new element key rest ans id i is live parts table table' t puts =
    let x = with_pair (object_at old.objects element) (object_at old.objects ans) in
    let adds = put_adds old new element ans (Ok id) i is in
    let element_now = object_stays x old.objects new.objects element adds live in
    let ans_now = object_stays x old.objects new.objects ans adds t.live in
    extended_parts new.objects i.whole.ids element key rest (parts_stay x old.objects new.objects element key rest adds live parts) element_now.0 table table' puts ans id i.id.0
    (i.id.1 ∙ (λ j. Cons (sym element_now.1 j) (sym ans_now.1 j))) (table_stays x old.objects new.objects adds ans table t)

-- ---- one turn of a fork
module _ (first old new : Held) (alist ans list forked_id element rest : Id) (parts : ArePartsOf old.objects (object_at old.objects list) element rest) (r : Result Id AlistFault)
    (same : forked (object_at old.objects list) (object_at old.objects forked_id) ≡ forked (object_at first.objects alist) (object_at first.objects ans))
    (g : GoesOn old new (with_pair (object_at old.objects element) (object_at old.objects forked_id)) r) where
  abbrev end : Object
  end = forked (object_at first.objects alist) (object_at first.objects ans)

  next : forked (object_at old.objects rest) (with_pair (object_at old.objects element) (object_at old.objects forked_id)) ≡ end
  next = sym (ap (λ z. forked z (object_at old.objects forked_id)) (parts_are old.objects (object_at old.objects list) element rest parts)) ∙ same

  turn_up : (y : Object) → IsPart y (with_pair (object_at old.objects element) (object_at old.objects forked_id)) → IsPart y end
  turn_up y h = subst (λ (z : Object). IsPart y z) next (forked_part (object_at old.objects rest) (with_pair (object_at old.objects element) (object_at old.objects forked_id)) y h)

  pub turn_adds : AddsCellsOf end first.objects old.objects → AddsCellsOf end first.objects new.objects
  turn_adds adds = adds_more end first.objects old.objects new.objects adds (adds_weaker (with_pair (object_at old.objects element) (object_at old.objects forked_id)) end old.objects new.objects turn_up g.objects)

  pub turn_err : AddsCellsOf end first.objects old.objects → old.limit ≡ first.limit → (answer : Result Id AlistFault) → IsErr answer → (IsErrOf answer fault.Full → IsErrOf r fault.Full) → GoesOn first new end answer
  turn_err adds limit (Ok id) e up = absurd cc
  turn_err adds limit (Err f) e up = record { id = tt; objects = turn_adds adds; limit = g.limit ∙ limit; stuck = λ h. stuck_weaker new (with_pair (object_at old.objects element) (object_at old.objects forked_id)) end turn_up (g.stuck (up h)) }

  rest_now : IsIdOf new.objects (object_at old.objects rest) rest
  rest_now = object_stays (with_pair (object_at old.objects element) (object_at old.objects forked_id)) old.objects new.objects rest g.objects parts.rest.0

  pub turn_live : IsLive new.objects rest
  turn_live = rest_now.0

  pub turn_same : (id : Id) → object_at new.objects id ≡ with_pair (object_at old.objects element) (object_at old.objects forked_id) → forked (object_at new.objects rest) (object_at new.objects id) ≡ end
  turn_same id e = (λ j. forked (rest_now.1 j) (e j)) ∙ next

  pub turn_smaller : size_of (object_at new.objects rest) < size_of (object_at old.objects list)
  turn_smaller = let e : size_of (object_at new.objects rest) ≡ size_of (object_at old.objects rest) = ap size_of rest_now.1 in omega (arith, e, rest_smaller old.objects (object_at old.objects list) element rest parts)
