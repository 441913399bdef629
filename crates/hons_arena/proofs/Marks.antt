-- Fingerprints that are written with their slots, and what a walk over them says of the slots.
use Rattle.std.proofs.Common.{◌≡◌, ◌≢◌, ℕ, zero, suc, ◌+◌, ◌<◌, ◌≤◌, arith, length, List, [], ◌∷◌, ◌++◌, refl, sym, ◌∙◌, ap, subst, get_or, inl, inr, set, take, replicate, length-set, get_or-set_other, get_or-set_same}
use Rattle.std.proofs.lemmas.Bool.{cases_eq}
use Rattle.std.proofs.lemmas.List.{get_or_append_left, get_or_push, get_or-take, length-take-le, length-replicate, take_more}
use Rattle.hons_arena.specs.declared.cell.Cell.{Cell}
use Rattle.hons_arena.specs.declared.cell.Cell.TheVariants as cell
use Rattle.hons_arena.specs.Cells.{cell_at}
use Rattle.hons_arena.specs.Hash.{hash_of, free, fingerprint_of}
use Rattle.hons_arena.specs.Probe.{IsNowhere, IsFirstWith}
use Rattle.hons_arena.specs.Table.{empty, slot_at, walk, IsTable, IsMarked}
use Rattle.hons_arena.proofs.Tables.{none_at}
use Rattle.hons_arena.proofs.Walks.{never_round, read, walk_within}

-- what stands beside a cell's slot
abbrev pub cell_fingerprint : Cell → ℕ
cell_fingerprint c = fingerprint_of (hash_of c)

none_free : (m q : ℕ) → get_or (replicate m free) q free ≡ free
none_free zero q = refl
none_free (suc m) zero = refl
none_free (suc m) (suc q) = none_free m q

pub marked-none : (m : ℕ) → IsMarked [] (replicate m empty) (replicate m free)
marked-none m = record {
  size = length-replicate m free ∙ sym (length-replicate m empty);
  vacant = λ q e. none_free m q;
  taken = λ q n. absurd (n (none_at m q));
}

module _ (cells : List Cell) (slots fingerprints : List ℕ) (marked : IsMarked cells slots fingerprints) where
  -- a free fingerprint stands beside an empty slot
  pub free_empty : (q : ℕ) → get_or fingerprints q free ≡ free → slot_at slots q ≡ empty
  free_empty q e = elim (cases_eq (slot_at slots q) empty) [
    | inl is ↦ is
    | inr taken ↦ omega (arith, e, marked.taken q taken)
  ]

  -- a slot beside another fingerprint has a cell, and not this one
  pub other_cell : (c : Cell) (q : ℕ) → get_or fingerprints q free ≢ free → get_or fingerprints q free ≢ cell_fingerprint c → cell_at cells (slot_at slots q) ≢ c
  other_cell c q some other e = other (marked.taken q (λ is. some (marked.vacant q is)) ∙ ap cell_fingerprint e)

  read_beside : (h i : ℕ) → h < length slots → i < length slots → slot_at fingerprints (walk (length slots) h i) ≡ get_or fingerprints (walk (length slots) h i) free
  read_beside h i p l = read fingerprints (walk (length slots) h i) (omega (arith, marked.size, walk_within (length slots) h i p (omega (arith, l))))

  -- the first free fingerprint is that of the first empty slot
  pub first_empty : (h q : ℕ) → h < length slots → IsFirstWith fingerprints h free q → IsFirstWith slots h empty q
  first_empty h q p f =
      let at : q ≡ walk (length slots) h f.steps = f.at ∙ ap (λ (m : ℕ). walk m h f.steps) marked.size in
      let within : f.steps < length slots = omega (arith, f.within, marked.size) in
      let here : slot_at fingerprints q ≡ get_or fingerprints q free = ap (slot_at fingerprints) at ∙ (read_beside h f.steps p within ∙ ap (λ r. get_or fingerprints r free) (sym at)) in record {
        steps = f.steps;
        within = within;
        at = at;
        is = free_empty q (sym here ∙ f.is);
        before = λ i l e. f.before i l (ap (λ (m : ℕ). slot_at fingerprints (walk m h i)) marked.size ∙ (read_beside h i p (omega (arith, l, within)) ∙ marked.vacant (walk (length slots) h i) e));
      }

  -- a table with more slots than cells has a free one on each walk
  pub somewhere_free : (h : ℕ) → IsTable cells slots → length cells < length slots → h < length slots → IsNowhere fingerprints h free → ⊥
  somewhere_free h table room home full =
      never_round cells slots h table room home (λ i l e. full i (omega (arith, l, marked.size)) (ap (λ (m : ℕ). slot_at fingerprints (walk m h i)) marked.size ∙ (read_beside h i home l ∙ marked.vacant (walk (length slots) h i) e)))

  module _ (q : ℕ) (within : q < length slots) (table : IsTable cells slots) where
    beside : q < length fingerprints
    beside = omega (arith, within, marked.size)

    sizes : (v w : ℕ) → length (set fingerprints q w) ≡ length (set slots q v)
    sizes v w = length-set fingerprints q w ∙ (marked.size ∙ sym (length-set slots q v))

    same_slot : (p v : ℕ) → p ≡ q → slot_at (set slots q v) p ≡ v
    same_slot p v e = ap (slot_at (set slots q v)) e ∙ get_or-set_same slots q v empty within

    other_slot : (p v : ℕ) → p ≢ q → slot_at (set slots q v) p ≡ slot_at slots p
    other_slot p v d = get_or-set_other slots q p v empty d

    same_mark : (p w : ℕ) → p ≡ q → get_or (set fingerprints q w) p free ≡ w
    same_mark p w e = ap (λ r. get_or (set fingerprints q w) r free) e ∙ get_or-set_same fingerprints q w free beside

    other_mark : (p w : ℕ) → p ≢ q → get_or (set fingerprints q w) p free ≡ get_or fingerprints p free
    other_mark p w d = get_or-set_other fingerprints q p w free d

    pub marked-push : (c : Cell) → length cells < empty → IsMarked (cells ++ c ∷ []) (set slots q (length cells)) (set fingerprints q (cell_fingerprint c))
    marked-push c room =
        let n : ℕ = length cells in record {
          size = sizes n (cell_fingerprint c);
          vacant = λ p e. elim (cases_eq p q) [
            | inl x ↦ absurd (omega (arith, e, same_slot p n x, room))
            | inr a ↦ other_mark p (cell_fingerprint c) a ∙ marked.vacant p (sym (other_slot p n a) ∙ e)
          ];
          taken = λ p d. elim (cases_eq p q) [
            | inl x ↦ same_mark p (cell_fingerprint c) x ∙ ap cell_fingerprint (sym (ap (cell_at (cells ++ c ∷ [])) (same_slot p n x) ∙ get_or_push cells c (cell.Int _) n refl))
            | inr a ↦
                let old : slot_at slots p ≢ empty = λ z. d (other_slot p n a ∙ z) in
                let cell : cell_at (cells ++ c ∷ []) (slot_at (set slots q n) p) ≡ cell_at cells (slot_at slots p) = ap (cell_at (cells ++ c ∷ [])) (other_slot p n a) ∙ get_or_append_left cells (c ∷ []) (cell.Int _) (slot_at slots p) (table.numbers p old) in
                other_mark p (cell_fingerprint c) a ∙ (marked.taken p old ∙ ap cell_fingerprint (sym cell))
          ];
        }

    -- the newest cell goes
    pub marked-pop : (k : ℕ) → k + 1 ≡ length cells → slot_at slots q ≡ k → IsMarked (take k cells) (set slots q empty) (set fingerprints q free)
    marked-pop k last at = record {
      size = sizes empty free;
      vacant = λ p e. elim (cases_eq p q) [
        | inl x ↦ same_mark p free x
        | inr a ↦ other_mark p free a ∙ marked.vacant p (sym (other_slot p empty a) ∙ e)
      ];
      taken = λ p d. elim (cases_eq p q) [
        | inl x ↦ absurd (d (same_slot p empty x))
        | inr a ↦
            let old : slot_at slots p ≢ empty = λ z. d (other_slot p empty a ∙ z) in
            let below : slot_at slots p < length cells = table.numbers p old in
            let apart : slot_at slots p ≢ k = λ z. a (table.single p q below (z ∙ sym at)) in
            let cell : cell_at (take k cells) (slot_at (set slots q empty) p) ≡ cell_at cells (slot_at slots p) = ap (cell_at (take k cells)) (other_slot p empty a) ∙ get_or-take k cells (slot_at slots p) (cell.Int _) (omega (arith, last, below, apart)) in
            other_mark p free a ∙ (marked.taken p old ∙ ap cell_fingerprint (sym cell))
      ];
    }

-- the next cell enters a table that is filled anew
pub marked-next : (cells : List Cell) (slots fingerprints : List ℕ) (i q : ℕ) → i < length cells → length cells ≤ empty → IsTable (take i cells) slots → IsMarked (take i cells) slots fingerprints → q < length slots
    → IsMarked (take (i + 1) cells) (set slots q i) (set fingerprints q (cell_fingerprint (cell_at cells i)))
marked-next cells slots fingerprints i q l few table marked within =
    let count : length (take i cells) ≡ i = length-take-le i cells (omega (arith, l)) in
    subst (λ (cs : List Cell). IsMarked cs (set slots q i) (set fingerprints q (cell_fingerprint (cell_at cells i)))) (sym (take_more cells i (cell.Int _) l))
    (subst (λ (k : ℕ). IsMarked (take i cells ++ cell_at cells i ∷ []) (set slots q k) (set fingerprints q (cell_fingerprint (cell_at cells i)))) count
    (marked-push (take i cells) slots fingerprints marked q within table (cell_at cells i) (omega (arith, count, l, few))))
