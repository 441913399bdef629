-- Lists of names, and of objects with a name each.
use Rattle.std.specs.Prelude.{◌≡◌, ℕ, zero, suc, eqb, List, map, Option, Some, None, position, slice_get, get_or}
use Rattle.std.specs.List.{find}
use Rattle.std.specs.Option.{option_map}
use Rattle.gl_logic.specs.Every.{Every}
use Rattle.gl_logic.specs.Object.{Object}

-- the first place of a name
abbrev pub place_of : List ℕ → ℕ → Option ℕ
place_of names name = position (eqb name) names

abbrev pub IsFree : List ℕ → ℕ → Type 0
IsFree names name = place_of names name ≡ None

-- none of the others is among the names
abbrev pub AreFreeNames : List ℕ → List ℕ → Type 0
AreFreeNames names others = Every (IsFree names) others

-- no name stands at two places
abbrev pub AreDifferentNames : List ℕ → Type 0
AreDifferentNames names = (i j : ℕ) (name : ℕ) → slice_get names i ≡ Some name → slice_get names j ≡ Some name → i ≡ j

abbrev pub names_of : List (ℕ × Object) → List ℕ
names_of entries = map (λ e. e.0) entries

-- the object of a name
abbrev pub object_named : List (ℕ × Object) → ℕ → Option Object
object_named entries name = option_map (λ e. e.1) (find (λ e. eqb name e.0) entries)

-- ---- places that are kept by name: one more than the place, and 0 where there is none
abbrev pub place_before : ℕ → Option ℕ
place_before zero = None
place_before (suc n) = Some n

abbrev pub place_in : List ℕ → ℕ → Option ℕ
place_in places name = place_before (get_or places name 0)

abbrev pub IsIndex : List ℕ → List ℕ → Type 0
IsIndex places names = (name : ℕ) → place_in places name ≡ place_of names name
