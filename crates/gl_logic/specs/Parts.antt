-- The parts of an object, and how large it is.
use Rattle.std.specs.Prelude.{ℕ, suc, ◌+◌, ◌<◌, max, Bool, true, false, List, [], ◌∷◌, ◌++◌, ◌⊎◌}
use Rattle.std.specs.List.{filter}
use Rattle.gl_logic.specs.Object.{Object, Symbol, Text, Cons}

-- the object itself and, for a cons, the parts of its car and of its cdr
abbrev pub parts : Object → List Object
parts (Cons a d) = Cons a d ∷ (parts a ++ parts d)
parts x = x ∷ []

-- integers, characters and conses take a cell; symbols and strings take none
abbrev pub is_cell : Object → Bool
is_cell (Symbol n) = false
is_cell (Text n) = false
is_cell _ = true

abbrev pub cells_in : Object → List Object
cells_in x = filter is_cell (parts x)

-- ---- how large
-- shared leaves are counted each time
abbrev pub leaves : Object → ℕ
leaves (Cons a d) = leaves a + leaves d
leaves _ = 1

-- the most car steps on one path
abbrev pub car_steps : Object → ℕ
car_steps (Cons a d) = max (suc (car_steps a)) (car_steps d)
car_steps _ = 0

-- too large to print
abbrev pub IsLarge : Object → Type 0
IsLarge x = (1000000 < leaves x) ⊎ (1000 < car_steps x)
