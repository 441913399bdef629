-- Names of definitions that get their places one after the other.
use Rattle.std.specs.Prelude.{◌≡◌, ◌<◌, ◌≤◌, ℕ, List, map, take, Some, slice_get}
use Rattle.gl_logic.specs.Named.{IsFree}
use Rattle.gl_logic.specs.declared.def.Def.{Def}

abbrev pub numbers_of : List Def → List ℕ
numbers_of defs = map (λ d. d.name.number) defs

-- the definitions from `first` to before `end` have names below the count of places
abbrev pub HasRoom : ℕ → List Def → ℕ → ℕ → Type 0
HasRoom count defs first end = (i : ℕ) (d : Def) → first ≤ i → i < end → slice_get defs i ≡ Some d → d.name.number < count

-- from place `first` on no name is one of those before it
abbrev pub AreFreeFrom : ℕ → List ℕ → Type 0
AreFreeFrom first names = (i : ℕ) (name : ℕ) → first ≤ i → slice_get names i ≡ Some name → IsFree (take i names) name
