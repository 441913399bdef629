-- Where the walk for a cell ends, and where a number stands.
use Rattle.std.specs.Prelude.{◌≡◌, ◌≢◌, ℕ, ◌<◌, List, length}
use Rattle.hons_arena.specs.declared.cell.Cell.{Cell}
use Rattle.hons_arena.specs.declared.probe.Probe.{Probe}
use Rattle.hons_arena.specs.declared.probe.Probe.TheVariants.{Found, Empty}
use Rattle.hons_arena.specs.Cells.{cell_at}
use Rattle.hons_arena.specs.Table.{slot_at, walk, IsFreeFor}

-- cell k keeps that
pub record IsFoundAt (cells : List Cell) (c : Cell) (k : ℕ) : Type 0 where
  pub held : k < length cells
  pub keeps : cell_at cells k ≡ c

-- no cell keeps that
abbrev pub IsAbsent : List Cell → Cell → Type 0
IsAbsent cells c = (k : ℕ) → k < length cells → cell_at cells k ≢ c

-- the walk ends at the cell, or in an empty slot where the cell is absent
abbrev pub IsEnd : List Cell → List ℕ → Cell → Probe → Type 0
IsEnd cells slots c (Found k) = IsFoundAt cells c k
IsEnd cells slots c (Empty q) = IsAbsent cells c × (q < length slots) × IsFreeFor slots c (length cells) q

-- no slot of the walk from h, or no fingerprint, is that number
abbrev pub IsNowhere : List ℕ → ℕ → ℕ → Type 0
IsNowhere slots h k = (i : ℕ) → i < length slots → slot_at slots (walk (length slots) h i) ≢ k

-- the first slot of the walk from h, or the first fingerprint, that is that number
pub record IsFirstWith (slots : List ℕ) (h k q : ℕ) : Type 0 where
  pub steps : ℕ
  pub within : steps < length slots
  pub at : q ≡ walk (length slots) h steps
  pub is : slot_at slots q ≡ k
  pub before : (i : ℕ) → i < steps → slot_at slots (walk (length slots) h i) ≢ k
