-- The objects that cells stand for, and what cells keep.
use Rattle.std.specs.Prelude.{◌≡◌, ℕ, pos, ◌-◌, ◌<◌, List, [], ◌∷◌, ◌++◌, length, get_or}
use Rattle.gl_logic.specs.Object.{Object, Int, Character, Cons}
use Rattle.gl_logic.specs.Width.{Fits}
use Rattle.hons_arena.specs.declared.cell.Cell.{Cell}
use Rattle.hons_arena.specs.declared.cell.Cell.TheVariants as cell
use Rattle.hons_arena.specs.declared.id.Id.{Id}
use Rattle.hons_arena.specs.Ids.{object_numbered, kind_in, number_in, IsNumberBelow}

-- the object of a cell, where its parts are among these
abbrev pub cell_object : List Object → Cell → Object
cell_object objects (cell.Int z) = Int z
cell_object objects (cell.Character n) = Character n
cell_object objects (cell.Cons s t m n) = Cons (object_numbered objects s m) (object_numbered objects t n)

-- the objects of cells, behind those of the cells before
abbrev pub objects_from : List Object → List Cell → List Object
objects_from before [] = before
objects_from before (c ∷ cs) = objects_from (before ++ cell_object before c ∷ []) cs

abbrev pub objects_of : List Cell → List Object
objects_of cells = objects_from [] cells

-- an integer is within 128 bits, and the parts' cells are among the first k
abbrev pub FitsBelow : ℕ → Cell → Type 0
FitsBelow k (cell.Int z) = Fits z
FitsBelow k (cell.Character n) = Unit {0}
FitsBelow k (cell.Cons s t m n) = IsNumberBelow k s m × IsNumberBelow k t n

-- a part of a cons is not among all cells but the newest of so many
abbrev pub HasNewestPart : ℕ → Cell → Type 0
HasNewestPart count c = ¬ FitsBelow (count - 1) c

abbrev pub cell_at : List Cell → ℕ → Cell
cell_at cells k = get_or cells k (cell.Int (pos 0))

-- different cells, each behind its parts
pub record IsInterned (cells : List Cell) : Type 0 where
  pub behind : (k : ℕ) → k < length cells → FitsBelow k (cell_at cells k)
  pub different : (i j : ℕ) → i < length cells → j < length cells → cell_at cells i ≡ cell_at cells j → i ≡ j

abbrev pub IsAtomCell : Cell → Type 0
IsAtomCell (cell.Int z) = Unit {0}
IsAtomCell (cell.Character n) = Unit {0}
IsAtomCell (cell.Cons s t m n) = ⊥

-- the cell of a cons of these two
abbrev pub cons_cell : Id → Id → Cell
cons_cell a d = cell.Cons (kind_in a) (kind_in d) (number_in a) (number_in d)
