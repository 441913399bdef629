-- Slots that are written keep the table.
use Rattle.std.proofs.Common.{◌≡◌, ◌≢◌, ℕ, zero, suc, ◌+◌, ◌<◌, ◌≤◌, arith, length, List, [], ◌∷◌, ◌++◌, refl, sym, ◌∙◌, ap, subst, inl, inr, set, take, replicate, length-set, get_or-set_other, get_or-set_same}
use Rattle.std.proofs.lemmas.Bool.{cases_lt, cases_eq}
use Rattle.std.proofs.lemmas.List.{get_or_append_left, get_or_push, get_or-take, length-take-le, length_push, take_more}
use Rattle.hons_arena.specs.declared.cell.Cell.{Cell}
use Rattle.hons_arena.specs.declared.cell.Cell.TheVariants as cell
use Rattle.hons_arena.specs.Cells.{cell_at}
use Rattle.hons_arena.specs.Hash.{home_of}
use Rattle.hons_arena.specs.Probe.{IsFirstWith}
use Rattle.hons_arena.specs.Table.{empty, walk, slot_at, IsPlaced, IsTable, IsFreeFor}

pub none_at : (m q : ℕ) → slot_at (replicate m empty) q ≡ empty
none_at zero q = refl
none_at (suc m) zero = refl
none_at (suc m) (suc q) = none_at m q

pub table-none : (m : ℕ) → IsTable [] (replicate m empty)
table-none m = record {
  few = omega arith;
  placed = λ j h. absurd (omega (arith, h));
  numbers = λ q n. absurd (n (none_at m q));
  single = λ p q h e. absurd (omega (arith, h));
}

-- a slot that is written, and another one
module _ (slots : List ℕ) (q new : ℕ) where
  kept : (p : ℕ) → p ≢ q → slot_at (set slots q new) p ≡ slot_at slots p
  kept p apart = get_or-set_other slots q p new empty apart

  written : (p : ℕ) → q < length slots → p ≡ q → slot_at (set slots q new) p ≡ new
  written p within e = ap (slot_at (set slots q new)) e ∙ get_or-set_same slots q new empty within

  -- a slot with a number below what this slot had
  kept_below : (p k : ℕ) → slot_at slots p ≤ k → k < slot_at slots q → slot_at (set slots q new) p ≡ slot_at slots p
  kept_below p k l h = kept p (λ e. let same : slot_at slots p ≡ slot_at slots q = ap (slot_at slots) e in omega (arith, same, l, h))

  placed-kept : (m : ℕ) (c : Cell) (j : ℕ) → j < slot_at slots q → IsPlaced m slots c j → IsPlaced m (set slots q new) c j
  placed-kept m c j later p = record {
    steps = p.steps;
    within = p.within;
    is = kept_below (walk m (home_of m c) p.steps) j (omega (arith, p.is)) later ∙ p.is;
    before = λ i h. omega (arith, p.before i h, kept_below (walk m (home_of m c) i) j (omega (arith, p.before i h)) later);
  }

module _ (cells : List Cell) (slots : List ℕ) (q : ℕ) (within : q < length slots) (table : IsTable cells slots) where
  abbrev n : ℕ
  n = length cells

  old_placed : (new : List Cell) (v j : ℕ) → j < n → cell_at new j ≡ cell_at cells j → j < slot_at slots q → IsPlaced (length (set slots q v)) (set slots q v) (cell_at new j) j
  old_placed new v j h e later = subst (λ (m : ℕ). IsPlaced m (set slots q v) (cell_at new j) j) (sym (length-set slots q v))
      (subst (λ (x : Cell). IsPlaced (length slots) (set slots q v) x j) (sym e) (placed-kept slots q v (length slots) (cell_at cells j) j later (table.placed j h)))

  -- a new cell in its free slot
  new_placed : (new : List Cell) (c : Cell) → n < empty → cell_at new n ≡ c → IsFreeFor slots c n q → IsPlaced (length (set slots q n)) (set slots q n) (cell_at new n) n
  new_placed new c room e f = subst (λ (m : ℕ). IsPlaced m (set slots q n) (cell_at new n) n) (sym (length-set slots q n)) (subst (λ (x : Cell). IsPlaced (length slots) (set slots q n) x n) (sym e) (record {
    steps = f.steps;
    within = f.within;
    is = sym (ap (slot_at (set slots q n)) f.at) ∙ get_or-set_same slots q n empty within;
    before = λ i h. omega (arith, f.before i h, kept_below slots q n (walk (length slots) (home_of (length slots) c) i) n (omega (arith, f.before i h)) (omega (arith, f.free, room)));
  }))

  pub table-push : (c : Cell) → n < empty → IsFreeFor slots c n q → IsTable (cells ++ c ∷ []) (set slots q n)
  table-push c room f =
      let more : length (cells ++ c ∷ []) ≡ n + 1 = length_push cells c in
      let same : (p : ℕ) → p ≡ q → slot_at (set slots q n) p ≡ n = λ p e. written slots q n p within e in
      let other : (p : ℕ) → p ≢ q → slot_at (set slots q n) p ≡ slot_at slots p = λ p d. kept slots q n p d in
      let old : (p : ℕ) → slot_at slots p ≢ empty → slot_at slots p < n = λ p d. table.numbers p d in record {
        few = omega (arith, more, room);
        placed = λ j h. elim (cases_lt j n) [
          | inl l ↦ old_placed (cells ++ c ∷ []) n j l (get_or_append_left cells (c ∷ []) (cell.Int _) j l) (omega (arith, l, f.free, room))
          | inr l ↦ let e : n ≡ j = omega (arith, h, l, more) in
              subst (λ (i : ℕ). IsPlaced (length (set slots q n)) (set slots q n) (cell_at (cells ++ c ∷ []) i) i) e (new_placed (cells ++ c ∷ []) c room (get_or_push cells c (cell.Int _) n refl) f)
        ];
        numbers = λ p d. elim (cases_eq p q) [
          | inl e ↦ omega (arith, same p e, more)
          | inr a ↦ omega (arith, other p a, more, old p (λ z. d (other p a ∙ z)))
        ];
        single = λ p r h e. elim (cases_eq p q) [
          | inl x ↦ elim (cases_eq r q) [
            | inl y ↦ x ∙ sym y
            | inr b ↦ let at : slot_at slots r ≡ n = sym (other r b) ∙ (sym e ∙ same p x) in absurd (omega (arith, at, old r (λ z. omega (arith, z, at, room))))
          ]
          | inr a ↦ elim (cases_eq r q) [
            | inl y ↦ let at : slot_at slots p ≡ n = sym (other p a) ∙ (e ∙ same r y) in absurd (omega (arith, at, old p (λ z. omega (arith, z, at, room))))
            | inr b ↦ table.single p r (old p (λ z. omega (arith, z, other p a, h, more, room))) (sym (other p a) ∙ (e ∙ other r b))
          ]
        ];
      }

  -- the newest cell goes
  pub table-pop : (k : ℕ) → k + 1 ≡ n → slot_at slots q ≡ k → IsTable (take k cells) (set slots q empty)
  table-pop k last at =
      let few : length (take k cells) ≡ k = length-take-le k cells (omega (arith, last)) in
      let same : (p : ℕ) → p ≡ q → slot_at (set slots q empty) p ≡ empty = λ p e. written slots q empty p within e in
      let other : (p : ℕ) → p ≢ q → slot_at (set slots q empty) p ≡ slot_at slots p = λ p d. kept slots q empty p d in record {
        few = omega (arith, few, last, table.few);
        placed = λ j h. let l : j < k = omega (arith, h, few) in old_placed (take k cells) empty j (omega (arith, l, last)) (get_or-take k cells j (cell.Int _) l) (omega (arith, l, at));
        numbers = λ p d. elim (cases_eq p q) [
          | inl e ↦ absurd (d (same p e))
          | inr a ↦
              let below : slot_at slots p < n = table.numbers p (λ z. d (other p a ∙ z)) in
              let apart : slot_at slots p ≢ k = λ z. a (table.single p q below (z ∙ sym at)) in omega (arith, few, last, below, apart, other p a)
        ];
        single = λ p r h e. elim (cases_eq p q) [
          | inl x ↦ absurd (omega (arith, h, same p x, few, last, table.few))
          | inr a ↦ elim (cases_eq r q) [
            | inl y ↦ absurd (omega (arith, h, e, same r y, few, last, table.few))
            | inr b ↦ table.single p r (omega (arith, h, other p a, few, last)) (sym (other p a) ∙ (e ∙ other r b))
          ]
        ];
      }

-- the first empty slot is free for the cell
free_first : (cells : List Cell) (slots : List ℕ) (c : Cell) (h q : ℕ) → IsTable cells slots → h ≡ home_of (length slots) c → IsFirstWith slots h empty q → IsFreeFor slots c (length cells) q
free_first cells slots c h q table e f = subst (λ (k : ℕ). IsFirstWith slots k empty q → IsFreeFor slots c (length cells) q) (sym e) (λ first. record {
  steps = first.steps;
  within = first.within;
  at = first.at;
  free = first.is;
  before = λ i l. table.numbers (walk (length slots) (home_of (length slots) c) i) (first.before i l);
}) f

-- the next cell enters a table that is filled anew
pub table-next : (cells : List Cell) (slots : List ℕ) (i h q : ℕ) → i < length cells → length cells ≤ empty → IsTable (take i cells) slots → q < length slots → h ≡ home_of (length slots) (cell_at cells i) → IsFirstWith slots h empty q
    → IsTable (take (i + 1) cells) (set slots q i)
table-next cells slots i h q l few table within home first =
    let count : length (take i cells) ≡ i = length-take-le i cells (omega (arith, l)) in
    subst (λ (cs : List Cell). IsTable cs (set slots q i)) (sym (take_more cells i (cell.Int _) l))
    (subst (λ (k : ℕ). IsTable (take i cells ++ cell_at cells i ∷ []) (set slots q k)) count
    (table-push (take i cells) slots q within table (cell_at cells i) (omega (arith, count, l, few)) (free_first (take i cells) slots (cell_at cells i) h q table home first)))
