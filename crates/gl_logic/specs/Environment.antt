-- Environments: the object of each variable.
use Rattle.std.specs.Prelude.{ℕ, if◌then◌else◌, eqb, List, [], ◌∷◌, ◌++◌}
use Rattle.gl_logic.specs.Object.{Object, nil}

-- a variable's first pair gives its object, and a variable without one has NIL
abbrev pub look : List (ℕ × Object) → ℕ → Object
look [] v = nil
look (p ∷ env) v = if eqb p.0 v then p.1 else look env v

-- each name with the value at its place, NIL where there is none
abbrev pub bound : List ℕ → List Object → List (ℕ × Object)
bound [] values = []
bound (v ∷ names) [] = (v, nil) ∷ bound names []
bound (v ∷ names) (x ∷ values) = (v, x) ∷ bound names values

-- the names with their values, before the pairs of an environment
abbrev pub extended : List ℕ → List Object → List (ℕ × Object) → List (ℕ × Object)
extended names values env = bound names values ++ env
