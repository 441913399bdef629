-- Answers that are kept by their keys.
use Rattle.std.specs.Prelude.{◌≡◌, ◌⊎◌, List, Contains}
use Rattle.sym_objects.specs.declared.sob.Sob.{Sob}
use Rattle.sym_prims.specs.declared.memo.Key.{Key}

-- the new answers are the old ones and this one
abbrev pub IsPut : List (Key × Sob) → List (Key × Sob) → Key → Sob → Type 0
IsPut old new key answer = (k : Key) (r : Sob) → Contains new (k, r) → Contains old (k, r) ⊎ ((k ≡ key) × (r ≡ answer))
