-- What a call to the outside leaves behind: why it failed, and which bytes came or went.
use Rattle.std.specs.Prelude.{◌≡◌, ◌≤◌, ◌<◌, ◌+◌, ◌-◌, ◌^◌, ℕ, min, List, ◌++◌, length, take, drop, Option, Some, IfSome, Result, OnOk, OnErr}

-- the count rose, or stands at the last value of its type
abbrev pub Rose : ℕ → ℕ → Type 0
Rose before now = min (before + 1) (2 ^ 64 - 1) ≤ now

-- the count never falls, a success leaves it, and a failure has raised it
pub record HasCause {T E : Type 0} (before now : ℕ) (result : Result T E) : Type 0 where
  pub later : before ≤ now
  pub stayed : OnOk result (now ≡ before)
  pub failed : OnErr result (Rose before now)

-- where the bytes are told, they stay
abbrev pub Stays : Option (List ℕ) → Option (List ℕ) → Type 0
Stays old new = IfSome old (λ before. new ≡ Some before)

-- where the bytes are told, these come behind them
abbrev pub Grows : Option (List ℕ) → Option (List ℕ) → List ℕ → Type 0
Grows old new bytes = IfSome old (λ before. new ≡ Some (before ++ bytes))

-- where the bytes are told, a front of these comes behind them, which is not the whole
abbrev pub GrowsByFront : Option (List ℕ) → Option (List ℕ) → List ℕ → Type 0
GrowsByFront old new bytes = (n : ℕ) × (n < length bytes) × Grows old new (take n bytes)

-- where the rest is told, this front of it was taken
abbrev pub Takes : Option (List ℕ) → Option (List ℕ) → List ℕ → Type 0
Takes old new bytes = IfSome old (λ rest. (new ≡ Some (drop (length bytes) rest)) × (bytes ≡ take (length bytes) rest))
