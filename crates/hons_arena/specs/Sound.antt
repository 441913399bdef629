-- What an arena's fields always are.
use Rattle.std.specs.Prelude.{ℕ, ◌<◌, ◌≤◌, List, length}
use Rattle.hons_arena.specs.declared.cell.Cell.{Cell}
use Rattle.hons_arena.specs.Cells.{IsInterned}
use Rattle.hons_arena.specs.Table.{empty, most_slots, IsTable, IsMarked}

-- cells within the limit in a table with a slot to spare, and the room of all is reserved
pub record IsSound (limit : ℕ) (cells : List Cell) (capacity : ℕ) (slots : List ℕ) (places : ℕ) (fingerprints : List ℕ) (bytes : ℕ) : Type 0 where
  pub few : length cells ≤ limit
  pub small : limit ≤ empty
  pub room : limit ≤ capacity
  pub free : length cells < length slots
  pub size : length slots ≤ most_slots limit
  pub reserved : most_slots limit ≤ places
  pub reserved_beside : most_slots limit ≤ bytes
  pub interned : IsInterned cells
  pub table : IsTable cells slots
  pub marked : IsMarked cells slots fingerprints
