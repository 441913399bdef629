-- Lists of numbers, one behind another in one list, by the places where they begin.
use Rattle.std.specs.Prelude.{ℕ, ◌-◌, ◌≤◌, List, [], ◌∷◌, take, drop}

-- the lists that begin at these places; the last place is where the last of them ends
abbrev pub cut : {X : Type 0} → List ℕ → List X → List (List X)
cut [] xs = []
cut (a ∷ []) xs = []
cut (a ∷ b ∷ bs) xs = take (b - a) (drop a xs) ∷ cut (b ∷ bs) xs

abbrev pub last_of : List ℕ → ℕ
last_of [] = 0
last_of (a ∷ []) = a
last_of (a ∷ b ∷ bs) = last_of (b ∷ bs)

-- there is a place, none is before the one before it, and none behind the whole
abbrev pub ArePlaces : List ℕ → ℕ → Type 0
ArePlaces [] most = ⊥
ArePlaces (a ∷ []) most = a ≤ most
ArePlaces (a ∷ b ∷ bs) most = (a ≤ b) × ArePlaces (b ∷ bs) most

-- what contracts see: the lists, and what stands behind the last one
pub record FlatSeen (X : Type 0) : Type 0 where
  pub lists : List (List X)
  pub rest : List X

abbrev pub flat_seen : {X : Type 0} → List ℕ → List X → FlatSeen X
flat_seen places xs = record { lists = cut places xs; rest = drop (last_of places) xs }
