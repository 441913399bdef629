-- What looking a cell up, and entering it, do to what is held.
use Rattle.std.proofs.Common.{◌≡◌, ◌≢◌, ℕ, ◌<◌, ◌≤◌, arith, length, List, [], ◌∷◌, ◌++◌, sym, ◌∙◌, ap, subst, refl, get_or, inl, inr, set}
use Rattle.std.proofs.lemmas.List.{get_or_push, length_push}
use Rattle.std.specs.List.{Contains}
use Rattle.gl_logic.specs.Object.{Object, nil}
use Rattle.hons_arena.specs.declared.cell.Cell.{Cell}
use Rattle.hons_arena.specs.declared.id.Id.{Id}
use Rattle.hons_arena.specs.declared.id.Id.TheVariants as id
use Rattle.hons_arena.specs.Cells.{cell_object, objects_of, FitsBelow, IsInterned}
use Rattle.hons_arena.specs.Held.{Held, Enters, HasNoCell, IsWhole}
use Rattle.hons_arena.specs.Ids.{object_at, IsBelow, IsIdOf}
use Rattle.hons_arena.specs.Probe.{IsAbsent, IsFoundAt}
use Rattle.hons_arena.specs.Sound.{IsSound}
use Rattle.hons_arena.specs.Table.{empty, most_slots, IsTable, IsMarked, IsFreeFor}
use Rattle.hons_arena.proofs.Closed.{all_held}
use Rattle.hons_arena.proofs.Interned.{objects_count, each_once, same_ids, narrow_ids, absent_held, found_held, found_contains, interned_push}
use Rattle.hons_arena.proofs.Marks.{cell_fingerprint, marked-push}
use Rattle.hons_arena.proofs.Objects.{objects-push}
use Rattle.hons_arena.proofs.Tables.{table-push}

abbrev pub seen : ℕ → List Cell → Held
seen limit cells = record { limit = limit; objects = objects_of cells }

abbrev pub cell_numbered : ℕ → Id
cell_numbered k = id.Cell k

pub count_is : (limit : ℕ) (cells : List Cell) (held : Held) → IsInterned cells → seen limit cells ≡ held → length cells ≡ length held.objects
count_is limit cells held interned is = sym (objects_count cells interned) ∙ ap (λ (h : Held). length h.objects) is

pub whole_from : (limit : ℕ) (cells : List Cell) (held : Held) → IsInterned cells → length cells ≤ limit → seen limit cells ≡ held → IsWhole held
whole_from limit cells held interned few is = subst IsWhole is (record {
  within = omega (arith, few, objects_count cells interned);
  different = each_once cells interned;
  ids = same_ids cells interned;
  parts = λ j h. all_held cells interned (object_at (objects_of cells) j) j (subst (λ (m : ℕ). IsBelow m j) (objects_count cells interned) h) refl;
  narrow = narrow_ids cells interned;
})

module _ (limit : ℕ) (cells : List Cell) (c : Cell) (interned : IsInterned cells) where
  parts_here : (held : Held) → seen limit cells ≡ held → FitsBelow (length held.objects) c → FitsBelow (length cells) c
  parts_here held is parts = subst (λ (m : ℕ). FitsBelow m c) (sym (count_is limit cells held interned is)) parts

  -- a cell that was found
  pub record Has (held : Held) (id : Id) : Type 0 where
    pub id_of : IsIdOf held.objects (cell_object held.objects c) id
    pub enters : Enters held.objects held.objects (cell_object held.objects c)
    pub never_full : HasNoCell held (cell_object held.objects c) → ⊥

  pub found : (held : Held) (k : ℕ) (id : Id) → seen limit cells ≡ held → FitsBelow (length held.objects) c → IsFoundAt cells c k → id ≡ cell_numbered k → Has held id
  found held k id is parts at e =
      let p : FitsBelow (length cells) c = parts_here held is parts in
      let contains : Contains (objects_of cells) (cell_object (objects_of cells) c) = found_contains cells interned c p k at.held at.keeps in
      subst (λ (i : Id). Has held i) (sym e) (subst (λ (h : Held). Has h (cell_numbered k)) is (record {
        id_of = (subst (λ (m : ℕ). k < m) (sym (objects_count cells interned)) at.held, found_held cells interned c p k at.held at.keeps);
        enters = inl (contains, refl);
        never_full = λ h. h.absent contains;
      }))

  pub no_cell : (held : Held) → seen limit cells ≡ held → FitsBelow (length held.objects) c → IsAbsent cells c → length cells ≡ limit → HasNoCell held (cell_object held.objects c)
  no_cell held is parts absent full =
      subst (λ (h : Held). HasNoCell h (cell_object h.objects c)) is (record {
        absent = absent_held cells interned c (parts_here held is parts) absent;
        full = objects_count cells interned ∙ full;
      })

  -- a cell that was added
  pub record Gets (held new : Held) (id : Id) : Type 0 where
    pub id_of : IsIdOf new.objects (cell_object held.objects c) id
    pub enters : Enters held.objects new.objects (cell_object held.objects c)
    pub not_full : HasNoCell held (cell_object held.objects c) → ⊥
    pub whole : IsWhole new

  pub added : (held : Held) (new : List Cell) (k : ℕ) (id : Id) → length cells ≤ limit → seen limit cells ≡ held → FitsBelow (length held.objects) c → IsAbsent cells c → length cells ≡ k → k ≢ limit → new ≡ cells ++ c ∷ [] → id ≡ cell_numbered k
      → Gets held (seen limit new) id
  added held new k id few is parts absent many room e f =
      let p : FitsBelow (length cells) c = parts_here held is parts in
      let x : Object = cell_object (objects_of cells) c in
      let grown : objects_of new ≡ objects_of cells ++ x ∷ [] = ap objects_of e ∙ objects-push [] cells c in
      let count : length (objects_of cells) ≡ k = objects_count cells interned ∙ many in
      let now : IsInterned new = subst (λ (cs : List Cell). IsInterned cs) (sym e) (interned_push cells interned c p absent) in
      subst (λ (i : Id). Gets held (seen limit new) i) (sym f) (subst (λ (h : Held). Gets h (seen limit new) (cell_numbered k)) is (record {
        id_of = (omega (arith, ap length grown, length_push (objects_of cells) x, count), ap (λ xs. get_or xs k nil) grown ∙ get_or_push (objects_of cells) x nil k count);
        enters = inr (absent_held cells interned c p absent, grown);
        not_full = λ h. room (sym many ∙ (sym (objects_count cells interned) ∙ h.full));
        whole = whole_from limit new (seen limit new) now (omega (arith, few, many, room, ap length e, length_push cells c)) refl;
      }))

pub sound_push : (limit : ℕ) (cells : List Cell) (capacity : ℕ) (slots : List ℕ) (places : ℕ) (c : Cell) (fingerprints : List ℕ) (bytes : ℕ) (new : List Cell) (more : ℕ) (grown : List ℕ) (reserved : ℕ) (marked : List ℕ) (beside : ℕ)
    → IsSound limit cells capacity slots places fingerprints bytes → FitsBelow (length cells) c → IsAbsent cells c
    → length cells ≢ limit → new ≡ cells ++ c ∷ [] → limit ≤ more → IsTable new grown → length new < length grown → length grown ≤ most_slots limit → places ≤ reserved → IsMarked new grown marked → bytes ≤ beside → IsSound limit new more grown reserved marked beside
sound_push limit cells capacity slots places c fingerprints bytes new more grown reserved marked beside s parts absent room e l table free size kept is_marked kept_beside = record {
  few = omega (arith, ap length e, length_push cells c, room, s.few);
  small = s.small;
  room = l;
  free = free;
  size = size;
  reserved = omega (arith, s.reserved, kept);
  reserved_beside = omega (arith, s.reserved_beside, kept_beside);
  interned = subst (λ (cs : List Cell). IsInterned cs) (sym e) (interned_push cells s.interned c parts absent);
  table = table;
  marked = is_marked;
}

-- the new cell in its slot
pub table_added : (cells : List Cell) (slots : List ℕ) (c : Cell) (q k : ℕ) (new : List Cell) → IsTable cells slots → q < length slots → IsFreeFor slots c (length cells) q → length cells ≡ k → k < empty → new ≡ cells ++ c ∷ [] → IsTable new (set slots q k)
table_added cells slots c q k new table within free many room e =
    subst (λ (cs : List Cell). IsTable cs (set slots q k)) (sym e) (subst (λ (n : ℕ). IsTable (cells ++ c ∷ []) (set slots q n)) many (table-push cells slots q within table c (omega (arith, many, room)) free))

-- and its fingerprint beside it
pub marked_added : (cells : List Cell) (slots fingerprints : List ℕ) (c : Cell) (q k w : ℕ) (new : List Cell) → IsTable cells slots → IsMarked cells slots fingerprints → q < length slots → length cells ≡ k → k < empty → new ≡ cells ++ c ∷ [] → w ≡ cell_fingerprint c
    → IsMarked new (set slots q k) (set fingerprints q w)
marked_added cells slots fingerprints c q k w new table marked within many room e f =
    subst (λ (cs : List Cell). IsMarked cs (set slots q k) (set fingerprints q w)) (sym e) (subst (λ (n : ℕ). IsMarked (cells ++ c ∷ []) (set slots q n) (set fingerprints q w)) many
    (subst (λ (m : ℕ). IsMarked (cells ++ c ∷ []) (set slots q (length cells)) (set fingerprints q m)) (sym f) (marked-push cells slots fingerprints marked q within table c (omega (arith, many, room)))))

-- what was said of lists that are these
pub found_here : (cells xs : List Cell) (c : Cell) (k : ℕ) → xs ≡ cells → IsFoundAt xs c k → IsFoundAt cells c k
found_here cells xs c k e h = subst (λ (zs : List Cell). IsFoundAt zs c k) e h

pub record IsEmptyEnd (cells : List Cell) (slots : List ℕ) (c : Cell) (q : ℕ) : Type 0 where
  pub absent : IsAbsent cells c
  pub within : q < length slots
  pub free : IsFreeFor slots c (length cells) q

pub empty_here : (cells xs : List Cell) (slots ys : List ℕ) (c : Cell) (q : ℕ) → xs ≡ cells → ys ≡ slots → (IsAbsent xs c × (q < length ys) × IsFreeFor ys c (length xs) q) → IsEmptyEnd cells slots c q
empty_here cells xs slots ys c q e f h = subst (λ (zs : List ℕ). IsEmptyEnd cells zs c q) f (subst (λ (zs : List Cell). IsEmptyEnd zs ys c q) e (record { absent = h.0; within = h.1; free = h.2 }))
