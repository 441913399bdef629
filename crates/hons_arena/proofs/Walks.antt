-- Walks over the slot table.
use Rattle.std.proofs.Common.{◌≡◌, ◌≢◌, ℕ, ◌+◌, ◌<◌, ◌≤◌, arith, length, List, get_or, ◌∙◌, ap, subst, inl, inr}
use Rattle.std.proofs.lemmas.Bool.Decides.{nat_tests}
use Rattle.std.proofs.lemmas.Bool.{cases_lt}
use Rattle.std.proofs.lemmas.Grind.{get_or_default_zero}
use Rattle.hons_arena.specs.declared.cell.Cell.{Cell}
use Rattle.hons_arena.specs.Cells.{cell_at}
use Rattle.hons_arena.specs.Hash.{home_of}
use Rattle.hons_arena.specs.Probe.{IsAbsent, IsNowhere}
use Rattle.hons_arena.specs.Table.{empty, walk, slot_at, IsPlaced, IsTable, IsFreeFor}
use Rattle.hons_arena.proofs.Pigeonhole.{pigeonhole}

pub walk_within : (m h d : ℕ) → h < m → d ≤ m → walk m h d < m
walk_within m h d p q = grind (arith, nat_tests)

pub walk_none : (m h : ℕ) → h < m → walk m h 0 ≡ h
walk_none m h p = grind (arith, nat_tests)

-- one step on: round the end of the table, and within it
pub walk_round : (m h d q r : ℕ) → h < m → d < m → q ≡ walk m h d → q + 1 ≡ m → r ≡ 0 → (r ≡ walk m h (d + 1)) × (r < m)
walk_round m h d q r p l e f g = (grind (arith, nat_tests), omega arith)

pub walk_on : (m h d q r : ℕ) → h < m → d < m → q ≡ walk m h d → q + 1 ≢ m → r ≡ q + 1 → (r ≡ walk m h (d + 1)) × (r < m)
walk_on m h d q r p l e f g = let w : walk m h d < m = walk_within m h d p (omega arith) in (grind (arith, nat_tests), omega arith)

pub walk_different : (m h c d : ℕ) → h < m → c < d → d < m → walk m h c ≢ walk m h d
walk_different m h c d p q r = grind (arith, nat_tests)

-- a slot that is read
pub read : (slots : List ℕ) (q : ℕ) → q < length slots → slot_at slots q ≡ get_or slots q 0
read slots q h = get_or_default_zero slots q empty h

-- a slot of the walk that has another cell
pub record IsPassed (cells : List Cell) (slots : List ℕ) (c : Cell) (i : ℕ) : Type 0 where
  pub held : slot_at slots (walk (length slots) (home_of (length slots) c) i) < length cells
  pub other : cell_at cells (slot_at slots (walk (length slots) (home_of (length slots) c) i)) ≢ c

-- at the first empty slot the cell is absent
pub absent : (cells : List Cell) (slots : List ℕ) (c : Cell) (n : ℕ) → IsTable cells slots
    → slot_at slots (walk (length slots) (home_of (length slots) c) n) ≡ empty → ((i : ℕ) → i < n → IsPassed cells slots c i) → IsAbsent cells c
absent cells slots c n table at passed j h e =
    let placed : IsPlaced (length slots) slots c j = subst (λ (x : Cell). IsPlaced (length slots) slots x j) e (table.placed j h) in
    elim (cases_lt placed.steps n) [
      | inl before ↦ (passed placed.steps before).other (ap (cell_at cells) placed.is ∙ e)
      | inr beyond ↦ elim (cases_lt n placed.steps) [
        | inl inside ↦ omega (arith, at, placed.before n inside, h, table.few)
        | inr outside ↦ let same : n ≡ placed.steps = omega arith in let there : slot_at slots (walk (length slots) (home_of (length slots) c) n) ≡ j = ap (λ d. slot_at slots (walk (length slots) (home_of (length slots) c) d)) same ∙ placed.is in omega (arith, at, there, h, table.few)
      ]
    ]

pub free : (cells : List Cell) (slots : List ℕ) (c : Cell) (n q : ℕ) → n < length slots → q ≡ walk (length slots) (home_of (length slots) c) n
    → slot_at slots q ≡ empty → ((i : ℕ) → i < n → IsPassed cells slots c i) → IsFreeFor slots c (length cells) q
free cells slots c n q within at is passed = record {
  steps = n;
  within = within;
  at = at;
  free = is;
  before = λ i h. (passed i h).held;
}

-- a table with more slots than cells has an empty one on each walk
pub never_round : (cells : List Cell) (slots : List ℕ) (h : ℕ) → IsTable cells slots → length cells < length slots → h < length slots → IsNowhere slots h empty → ⊥
never_round cells slots h table room home full =
    let m : ℕ = length slots in
    let few : m ≤ length cells = pigeonhole m (length cells) (λ i p. slot_at slots (walk m h i)) (λ i p. table.numbers (walk m h i) (full i p))
    (λ i j p q l e. walk_different m h i j home l q (table.single (walk m h i) (walk m h j) (table.numbers (walk m h i) (full i p)) e)) in
    omega arith

pub never_passed : (cells : List Cell) (slots : List ℕ) (c : Cell) → IsTable cells slots → length cells < length slots
    → home_of (length slots) c < length slots → ((i : ℕ) → i < length slots → IsPassed cells slots c i) → ⊥
never_passed cells slots c table room home passed =
    never_round cells slots (home_of (length slots) c) table room home (λ i h e. omega (arith, e, (passed i h).held, table.few))

-- the number of a cell stands on the cell's walk
pub somewhere : (cells : List Cell) (slots : List ℕ) (k : ℕ) → IsTable cells slots → k < length cells → IsNowhere slots (home_of (length slots) (cell_at cells k)) k → ⊥
somewhere cells slots k table h nowhere = let p = table.placed k h in nowhere p.steps p.within p.is
