-- What a cell that is read says of what is held.
use Rattle.std.proofs.Common.{◌≡◌, ◌≢◌, ℕ, ◌+◌, ◌-◌, ◌<◌, ◌≤◌, arith, length, List, Option, None, Some, refl, sym, ◌∙◌, ap, subst, get_or, take, set, length-set, MatchOption}
use Rattle.std.proofs.lemmas.List.{length-take-le, get_or-take}
use Rattle.gl_logic.specs.Object.{Object, nil, car, cdr, Cons}
use Rattle.hons_arena.specs.declared.cell.Cell.{Cell}
use Rattle.hons_arena.specs.declared.cell.Cell.TheVariants as cell
use Rattle.hons_arena.specs.declared.id.Id.{Id}
use Rattle.hons_arena.specs.declared.id.Id.TheVariants as id
use Rattle.hons_arena.specs.declared.id.IdKind.{IdKind}
use Rattle.hons_arena.specs.declared.id.IdKind.TheVariants as kind
use Rattle.hons_arena.specs.Cells.{cell_object, objects_of, cell_at, FitsBelow, IsInterned, IsAtomCell, cons_cell}
use Rattle.hons_arena.specs.Hash.{free}
use Rattle.hons_arena.specs.Held.{Held}
use Rattle.hons_arena.specs.Ids.{kind_in, number_in, object_at, object_numbered, IsNumberBelow, IsBelow, IsLive, IsIdOf, HasNoParts, ArePartsOf}
use Rattle.hons_arena.specs.Sound.{IsSound}
use Rattle.hons_arena.specs.Table.{empty, slot_at, IsTable, IsMarked}
use Rattle.hons_arena.proofs.Entering.{seen, count_is}
use Rattle.hons_arena.proofs.Interned.{object_is, parts_live, interned_take}
use Rattle.hons_arena.proofs.Marks.{marked-pop}
use Rattle.hons_arena.proofs.Objects.{objects-take}
use Rattle.hons_arena.proofs.Tables.{table-pop}

module _ (limit : ℕ) (cells : List Cell) (held : Held) (interned : IsInterned cells) (is : seen limit cells ≡ held) where
  pub object_read : (k : ℕ) → k < length held.objects → cell_object held.objects (cell_at cells k) ≡ get_or held.objects k nil
  object_read k h =
      let l : k < length cells = omega (arith, h, count_is limit cells held interned is) in
      subst (λ (s : Held). cell_object s.objects (cell_at cells k) ≡ get_or s.objects k nil) is (sym (object_is cells interned k l))

  pub parts_read : (k : ℕ) → k < length held.objects → FitsBelow (length held.objects) (cell_at cells k)
  parts_read k h =
      subst (λ (m : ℕ). FitsBelow m (cell_at cells k)) (count_is limit cells held interned is) (parts_live cells interned k (omega (arith, h, count_is limit cells held interned is)))

-- the number of an id of a cell
pub number_live : (objects : List Object) (j : Id) (n : ℕ) → j ≡ id.Cell n → IsLive objects j → n < length objects
number_live objects j n e h = subst (λ (i : Id). IsLive objects i) e h

pub object_of_number : (objects : List Object) (j : Id) (n : ℕ) → j ≡ id.Cell n → object_at objects j ≡ get_or objects n nil
object_of_number objects j n e = ap (object_at objects) e

atom_no_parts : (objects : List Object) (c : Cell) → IsAtomCell c → HasNoParts (cell_object objects c)
atom_no_parts objects (cell.Int z) h = (tt, refl, refl)
atom_no_parts objects (cell.Character n) h = (tt, refl, refl)
atom_no_parts objects (cell.Cons s t m n) h = absurd h

pub parts_of_read : (objects : List Object) (x : Object) (c : Cell) (o : Option (Id × Id)) → FitsBelow (length objects) c → cell_object objects c ≡ x → MatchOption o (IsAtomCell c) (λ p. c ≡ cons_cell p.0 p.1)
    → MatchOption o (HasNoParts x) (λ p. ArePartsOf objects x p.0 p.1)
parts_of_read objects x c None below is h = subst HasNoParts is (atom_no_parts objects c h)
parts_of_read objects x c (Some p) below is h =
    let parts : FitsBelow (length objects) (cons_cell p.0 p.1) = subst (λ (e : Cell). FitsBelow (length objects) e) h below in
    let cons : cell_object objects (cons_cell p.0 p.1) ≡ x = ap (cell_object objects) (sym h) ∙ is in
    record { first = (parts.0, ap car cons); rest = (parts.1, ap cdr cons); whole = sym cons ∙ ap (λ y. Cons (car y) (cdr y)) cons }

pub no_parts_but_cells : (objects : List Object) (j : Id) → ((n : ℕ) → j ≢ id.Cell n) → HasNoParts (object_at objects j)
no_parts_but_cells objects (id.Symbol t) apart = (tt, refl, refl)
no_parts_but_cells objects (id.Text t) apart = (tt, refl, refl)
no_parts_but_cells objects (id.Cell n) apart = absurd (apart n refl)

-- the newest cell goes
pub sound_pop : (limit : ℕ) (cells : List Cell) (capacity : ℕ) (slots : List ℕ) (places : ℕ) (fingerprints : List ℕ) (bytes k q : ℕ) (new : List Cell) (more : ℕ) → IsSound limit cells capacity slots places fingerprints bytes → k + 1 ≡ length cells → q < length slots → slot_at slots q ≡ k
    → new ≡ take k cells → limit ≤ more → IsSound limit new more (set slots q empty) places (set fingerprints q free) bytes
sound_pop limit cells capacity slots places fingerprints bytes k q new more s last within at e l =
    let few : length (take k cells) ≡ k = length-take-le k cells (omega (arith, last)) in record {
      few = omega (arith, ap length e, few, last, s.few);
      small = s.small;
      room = l;
      free = omega (arith, ap length e, few, last, s.free, length-set slots q empty);
      size = omega (arith, s.size, length-set slots q empty);
      reserved = s.reserved;
      reserved_beside = s.reserved_beside;
      interned = subst (λ (cs : List Cell). IsInterned cs) (sym e) (interned_take cells s.interned k (omega (arith, last)));
      table = subst (λ (cs : List Cell). IsTable cs (set slots q empty)) (sym e) (table-pop cells slots q within s.table k last at);
      marked = subst (λ (cs : List Cell). IsMarked cs (set slots q empty) (set fingerprints q free)) (sym e) (marked-pop cells slots fingerprints s.marked q within s.table k last at);
    }

pub objects_left : (limit : ℕ) (cells : List Cell) (held : Held) (k : ℕ) (new : List Cell) → IsInterned cells → seen limit cells ≡ held → k + 1 ≡ length cells → new ≡ take k cells → objects_of new ≡ take (length held.objects - 1) held.objects
objects_left limit cells held k new interned is last e =
    ap objects_of e ∙ (objects-take cells k ∙ (ap (λ m. take m (objects_of cells)) (omega (arith, last, count_is limit cells held interned is)) ∙ ap (λ (s : Held). take (length held.objects - 1) s.objects) is))

-- an id of one of the first cells
pub kept_numbered : (objects : List Object) (n : ℕ) → n ≤ length objects → (t : IdKind) (k : ℕ) → IsNumberBelow n t k → IsNumberBelow (length (take n objects)) t k × (object_numbered (take n objects) t k ≡ object_numbered objects t k)
kept_numbered objects n l kind.Symbol k h = (tt, refl)
kept_numbered objects n l kind.Text k h = (tt, refl)
kept_numbered objects n l kind.Cell k h = (omega (arith, h, length-take-le n objects l), get_or-take n objects k nil h)

pub kept_id : (objects new : List Object) (n : ℕ) → n ≤ length objects → new ≡ take n objects → (j : Id) → IsBelow n j → IsIdOf new (object_at objects j) j
kept_id objects new n l e j h = subst (λ (xs : List Object). IsIdOf xs (object_at objects j) j) (sym e) (kept_numbered objects n l (kind_in j) (number_in j) h)
