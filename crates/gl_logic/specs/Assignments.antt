-- An assignment, which a list of truth values gives.
use Rattle.std.specs.Prelude.{ℕ, Bool, false, List, get_or}

-- the value of a variable, false past the end
abbrev pub value_at : List Bool → ℕ → Bool
value_at bits k = get_or bits k false
