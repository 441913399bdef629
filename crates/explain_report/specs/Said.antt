-- What a report says: its bytes, and none where memory was refused for some of them.
use Rattle.std.specs.Prelude.{◌≡◌, ℕ, List, ◌++◌, Option, Some, None}

-- after a refusal nothing more is said; else the bytes before and behind are so related, or memory is refused
abbrev pub Says : (List ℕ → List ℕ → Type 0) → Option (List ℕ) → Option (List ℕ) → Type 0
Says IsSaid old None = Unit {0}
Says IsSaid None (Some new) = ⊥
Says IsSaid (Some old) (Some new) = IsSaid old new

-- a text is said behind what was said
abbrev pub Adds : List ℕ → Option (List ℕ) → Option (List ℕ) → Type 0
Adds text old new = Says (λ before behind. behind ≡ before ++ text) old new

-- something is said behind what was said
abbrev pub SaysMore : Option (List ℕ) → Option (List ℕ) → Type 0
SaysMore old new = Says (λ before behind. (text : List ℕ) × (behind ≡ before ++ text)) old new
