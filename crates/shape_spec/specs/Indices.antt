-- Bindings: each variable, by the number of its name, with its shape.
use Rattle.std.specs.Prelude.{◌≢◌, ℕ, ◌+◌, ◌<◌, ◌≤◌, cond, ltb, List, [], ◌∷◌, ◌++◌, map, length, Option, Some, None}
use Rattle.shape_spec.specs.ShapeSeen.{ShapeSeen, Boolean, Integer, Choice, Constant, Pair}

abbrev pub variables_of : List (ℕ × ShapeSeen) → List ℕ
variables_of b = map (λ p. p.0) b

abbrev pub shapes_of : List (ℕ × ShapeSeen) → List ShapeSeen
shapes_of b = map (λ p. p.1) b

-- the indices of a shape, from left to right
abbrev pub indices_in : ShapeSeen → List ℕ
indices_in (Boolean i) = i ∷ []
indices_in (Integer is) = is
indices_in (Choice i x y) = i ∷ indices_in x ++ indices_in y
indices_in (Constant x) = []
indices_in (Pair x y) = indices_in x ++ indices_in y

-- and those of all bindings
abbrev pub indices_of : List (ℕ × ShapeSeen) → List ℕ
indices_of [] = []
indices_of (p ∷ b) = indices_in p.1 ++ indices_of b

abbrev pub width_of : List (ℕ × ShapeSeen) → ℕ
width_of b = length (indices_of b)

-- how many of the indices are smaller than this one
abbrev pub rank_in : List ℕ → ℕ → ℕ
rank_in [] i = 0
rank_in (j ∷ is) i = cond (ltb j i) 1 0 + rank_in is i

-- and for each index of a list how many of them are smaller
abbrev pub ranks_of : List ℕ → List ℕ
ranks_of is = map (rank_in is) is

-- ---- what every list of bindings of the program keeps
abbrev pub IsNotIn : ℕ → List ℕ → Type 0
IsNotIn x [] = Unit {0}
IsNotIn x (y ∷ ys) = (x ≢ y) × IsNotIn x ys

-- none stands twice
abbrev pub AreApart : List ℕ → Type 0
AreApart [] = Unit {0}
AreApart (x ∷ xs) = IsNotIn x xs × AreApart xs

abbrev pub AllBelow : ℕ → List ℕ → Type 0
AllBelow n [] = Unit {0}
AllBelow n (x ∷ xs) = (x < n) × AllBelow n xs

-- the indices of an integer, where the shape is one
abbrev pub integer_in : ShapeSeen → Option (List ℕ)
integer_in (Integer is) = Some is
integer_in _ = None

-- each integer has 1 to 128 indices
abbrev pub IsShape : ShapeSeen → Type 0
IsShape (Boolean i) = Unit {0}
IsShape (Integer is) = (0 < length is) × (length is ≤ 128)
IsShape (Choice i x y) = IsShape x × IsShape y
IsShape (Constant x) = Unit {0}
IsShape (Pair x y) = IsShape x × IsShape y

abbrev pub AreShapes : List (ℕ × ShapeSeen) → Type 0
AreShapes [] = Unit {0}
AreShapes (p ∷ b) = IsShape p.1 × AreShapes b

pub record IsBindings (b : List (ℕ × ShapeSeen)) : Type 0 where
  pub variables : AreApart (variables_of b)
  pub shapes : AreShapes b
  pub indices : AreApart (indices_of b)
  pub below : AllBelow 1000000 (indices_of b)
  pub few : width_of b ≤ 1024
