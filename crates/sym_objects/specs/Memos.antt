-- Values that are kept by their keys.
use Rattle.std.specs.Prelude.{◌≡◌, ◌⊎◌, List, Contains}
use Rattle.sym_objects.specs.declared.memo.Key.{Key}

-- the new values are the old ones and this one
abbrev pub IsPut : {V : Type 0} → List (Key × V) → List (Key × V) → Key → V → Type 0
IsPut {V = V} old new key value = (k : Key) (v : V) → Contains new (k, v) → Contains old (k, v) ⊎ ((k ≡ key) × (v ≡ value))

-- each value is right for what its key means
abbrev pub AreRight : {K V : Type 0} → (Key → K) → (K → V → Type 0) → List (Key × V) → Type 0
AreRight {V = V} of right kept = (k : Key) (v : V) → Contains kept (k, v) → right (of k) v
