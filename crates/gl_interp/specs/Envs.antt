-- Environments of symbolic objects, by their number.
use Rattle.std.specs.Prelude.{ℕ, ◌≡◌, ◌<◌, ◌≤◌, List, [], ◌∷◌, length, get_or, if◌then◌else◌, eqb, Option, Some, None}
use Rattle.sym_objects.specs.declared.sob.Sob.{Sob}

-- a name's first pair gives its object
abbrev pub sob_in : List (ℕ × Sob) → ℕ → Option Sob
sob_in [] v = None
sob_in (p ∷ ps) v = if eqb p.0 v then Some p.1 else sob_in ps v

-- each name with the object at its place
abbrev pub sobs_bound : List ℕ → List Sob → List (ℕ × Sob)
sobs_bound [] xs = []
sobs_bound (v ∷ vs) [] = []
sobs_bound (v ∷ vs) (x ∷ xs) = (v, x) ∷ sobs_bound vs xs

-- all objects are of the first n nodes
abbrev pub AllBelow : ℕ → List Sob → Type 0
AllBelow n [] = Unit {0}
AllBelow n (x ∷ xs) = (x.number < n) × AllBelow n xs

abbrev pub PairsBelow : ℕ → List (ℕ × Sob) → Type 0
PairsBelow n [] = Unit {0}
PairsBelow n (p ∷ ps) = (p.1.number < n) × PairsBelow n ps

abbrev pub EnvsBelow : ℕ → List (List (ℕ × Sob)) → Type 0
EnvsBelow n envs = (i : ℕ) → PairsBelow n (get_or envs i [])

-- each environment stays
pub record EnvsKept (old new : List (List (ℕ × Sob))) : Type 0 where
  pub no_fewer : length old ≤ length new
  pub same : (i : ℕ) → i < length old → get_or new i [] ≡ get_or old i []
