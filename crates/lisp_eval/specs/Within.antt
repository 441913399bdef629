-- Cells that were held at the start, or are of something seen.
use Rattle.std.specs.Prelude.{◌≡◌, ℕ, List, Some, slice_get, Contains}
use Rattle.std.proofs.Common.{◌⊎◌}
use Rattle.gl_logic.specs.Object.{Object}
use Rattle.hons_arena.specs.Parts.{IsCellOf}

abbrev pub IsIn : List Object → Object → Type 0
IsIn xs x = (k : ℕ) × (slice_get xs k ≡ Some x)

pub record IsSeenCell (seen : List Object) (y : Object) : Type 0 where
  pub value : Object
  pub seen_value : IsIn seen value
  pub cell : IsCellOf y value

abbrev pub IsWithin : List Object → List Object → Object → Type 0
IsWithin start seen y = Contains start y ⊎ IsSeenCell seen y

abbrev pub AreWithin : List Object → List Object → List Object → Type 0
AreWithin start seen objects = (y : Object) → Contains objects y → IsWithin start seen y

-- a list that has all of these
pub record CoverCells (start seen all : List Object) : Type 0 where
  pub first : (y : Object) → Contains start y → Contains all y
  pub later : (y : Object) → IsSeenCell seen y → Contains all y
