-- The bindings that a value of the program stands for.
use Rattle.std.specs.Prelude.{◌≡◌, ℕ, Bool, true, false, List, [], ◌∷◌, ◌++◌, map}
use Rattle.std.specs.List.Sorted.{IsNonDecreasing, IsPermutation}
use Rattle.shape_spec.specs.ShapeSeen.{ShapeSeen}
use Rattle.shape_spec.specs.ShapeOf.{shape_of}
use Rattle.shape_spec.specs.Indices.{indices_in, indices_of, AreApart, IsBindings}
use Rattle.shape_spec.specs.declared.binding_list.Binding.{Binding}

abbrev pub binding_of : Binding → ℕ × ShapeSeen
binding_of x = (x.variable.number, shape_of x.shape)

abbrev pub bindings_of : List Binding → List (ℕ × ShapeSeen)
bindings_of xs = map binding_of xs

-- these are all the indices in order
pub record AreInOrder (b : List (ℕ × ShapeSeen)) (sorted : List ℕ) : Type 0 where
  pub proper : IsBindings b
  pub rising : IsNonDecreasing sorted
  pub all : IsPermutation (indices_of b) sorted

-- the bindings after one more, or, where that fails, that some index would stand twice
abbrev pub Pushes : Bool → List (ℕ × ShapeSeen) → ℕ × ShapeSeen → List (ℕ × ShapeSeen) → Type 0
Pushes true old p new = new ≡ old ++ p ∷ []
Pushes false old p new = AreApart (indices_of old ++ indices_in p.1) → ⊥
