-- Sets of names.
use Rattle.std.specs.Prelude.{ℕ, Bool, true, not, ◌&&◌, eqb, List, [], ◌∷◌}
use Rattle.std.specs.List.{list_any}

-- no name stands twice
abbrev pub are_different : List ℕ → Bool
are_different [] = true
are_different (x ∷ xs) = not (list_any (eqb x) xs) && are_different xs
