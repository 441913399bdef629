-- One list within another.
use Rattle.std.specs.Prelude.{List, [], ◌∷◌}

-- the elements of the first list stand in the second in their order, with any others between them
pub data IsWithin {A : Type 0} : List A → List A → Type 0 where
  Nothing : IsWithin [] []
  Both : (x : A) (xs ys : List A) → IsWithin xs ys → IsWithin (x ∷ xs) (x ∷ ys)
  Skipped : (y : A) (xs ys : List A) → IsWithin xs ys → IsWithin xs (y ∷ ys)
