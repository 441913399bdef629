-- Tables of texts.
use Rattle.std.specs.Prelude.{◌≡◌, ℕ, List, [], ◌∷◌, ◌++◌, Option, Some, if◌then◌else◌, bytes_eq, position, slice_get, take, codes}
use Rattle.std.specs.List.{list_any}

-- the number of a text: its first place
abbrev pub number_of : List ℕ → List (List ℕ) → Option ℕ
number_of name names = position (bytes_eq name) names

-- the texts after this one was asked for
abbrev pub with_name : List (List ℕ) → List ℕ → List (List ℕ)
with_name names name = if list_any (bytes_eq name) names then names else names ++ name ∷ []

-- NIL, T, the mark of backquote and the mark of comma
abbrev pub first_names : List (List ℕ)
first_names = codes "NIL" ∷ codes "T" ∷ (96 ∷ []) ∷ (44 ∷ []) ∷ []

-- a text stands at one place only
abbrev pub AreDifferent : List (List ℕ) → Type 0
AreDifferent names = (i j : ℕ) (name : List ℕ) → slice_get names i ≡ Some name → slice_get names j ≡ Some name → i ≡ j

pub record IsTable (names : List (List ℕ)) : Type 0 where
  pub first : take 4 names ≡ first_names
  pub different : AreDifferent names

-- the later table begins with the earlier one
abbrev pub Extends : List (List ℕ) → List (List ℕ) → Type 0
Extends earlier later = (more : List (List ℕ)) × (later ≡ earlier ++ more)
