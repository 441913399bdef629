-- The slot table: each cell's number stands at the end of a walk over slots of older cells.
use Rattle.std.specs.Prelude.{◌≡◌, ◌≢◌, ℕ, ◌+◌, ◌-◌, ◌*◌, ◌<◌, ◌≤◌, List, length, get_or, if◌then◌else◌, nat_lt}
use Rattle.hons_arena.specs.declared.cell.Cell.{Cell}
use Rattle.hons_arena.specs.Cells.{cell_at}
use Rattle.hons_arena.specs.Hash.{hash_of, home_of, free, fingerprint_of}

-- what an empty slot has, and no cell's number
abbrev pub empty : ℕ
empty = 4294967295

-- the most slots for so many cells
abbrev pub most_slots : ℕ → ℕ
most_slots limit = 2 * limit + 1

-- the slot that a walk from h reaches after d steps, round a table of m slots
abbrev pub walk : ℕ → ℕ → ℕ → ℕ
walk m h d = if nat_lt (h + d) m then h + d else h + d - m

abbrev pub slot_at : List ℕ → ℕ → ℕ
slot_at slots q = get_or slots q empty

-- cell j, which keeps c, is found by a walk from its home over slots of older cells, in a table of m slots
pub record IsPlaced (m : ℕ) (slots : List ℕ) (c : Cell) (j : ℕ) : Type 0 where
  pub steps : ℕ
  pub within : steps < m
  pub is : slot_at slots (walk m (home_of m c) steps) ≡ j
  pub before : (i : ℕ) → i < steps → slot_at slots (walk m (home_of m c) i) < j

-- each cell is placed, and no slot has more than that
pub record IsTable (cells : List Cell) (slots : List ℕ) : Type 0 where
  pub few : length cells ≤ empty
  pub placed : (j : ℕ) → j < length cells → IsPlaced (length slots) slots (cell_at cells j) j
  pub numbers : (q : ℕ) → slot_at slots q ≢ empty → slot_at slots q < length cells
  pub single : (p q : ℕ) → slot_at slots p < length cells → slot_at slots p ≡ slot_at slots q → p ≡ q

-- beside each slot stands the fingerprint of its cell, or that of a free one
pub record IsMarked (cells : List Cell) (slots fingerprints : List ℕ) : Type 0 where
  pub size : length fingerprints ≡ length slots
  pub vacant : (q : ℕ) → slot_at slots q ≡ empty → get_or fingerprints q free ≡ free
  pub taken : (q : ℕ) → slot_at slots q ≢ empty → get_or fingerprints q free ≡ fingerprint_of (hash_of (cell_at cells (slot_at slots q)))

-- the slot at which a new cell goes in, behind so many others
pub record IsFreeFor (slots : List ℕ) (c : Cell) (count q : ℕ) : Type 0 where
  pub steps : ℕ
  pub within : steps < length slots
  pub at : q ≡ walk (length slots) (home_of (length slots) c) steps
  pub free : slot_at slots q ≡ empty
  pub before : (i : ℕ) → i < steps → slot_at slots (walk (length slots) (home_of (length slots) c) i) < count
