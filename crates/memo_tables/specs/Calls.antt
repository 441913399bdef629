-- Calls, and what it means that one is kept.
use Rattle.std.specs.Prelude.{◌≢◌, ℕ, List, AllPairs, Contains}
use Rattle.hons_arena.specs.declared.id.Id.{Id}

-- a call of the function of this number with these arguments
pub record Call : Type 0 where
  pub function : ℕ
  pub arguments : List Id

-- the call is kept with this value
abbrev pub IsKeptAs : List (Call × Id) → Call → Id → Type 0
IsKeptAs kept call value = Contains kept (call, value)

-- the call is kept with some value
abbrev pub IsKept : List (Call × Id) → Call → Type 0
IsKept kept call = (value : Id) × IsKeptAs kept call value

-- no call is kept twice
abbrev pub IsEachOnce : List (Call × Id) → Type 0
IsEachOnce kept = AllPairs (λ x y. x.0 ≢ y.0) kept
