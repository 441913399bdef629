-- Marks of literals: what a trail keeps true of them.
use Rattle.std.specs.Prelude.{ℕ, ℤ, pos, negsuc, Bool, false, cond, ◌+◌, ◌*◌, ◌≡◌, ◌<◌, List, [], ◌∷◌, get_or, All}
use Rattle.std.specs.Int.RustNames.{unsigned_abs}
use Rattle.cnf_rup.specs.Shown.{is_among}

-- what contracts see of a trail: the literals that are true, in order; how many marks there are; how many are not set
pub record TrailSeen : Type 0 where
  pub literals : List ℤ
  pub room : ℕ
  pub unset : ℕ

-- the mark of a literal: 0, -1, 1, -2, 2 and so on
abbrev pub mark_of : ℤ → ℕ
mark_of (pos v) = 2 * v
mark_of (negsuc v) = 2 * v + 1

abbrev pub is_marked : List Bool → ℤ → Bool
is_marked marks l = get_or marks (mark_of l) false

-- how many marks are not set
abbrev pub unset_count : List Bool → ℕ
unset_count [] = 0
unset_count (m ∷ ms) = cond m 0 1 + unset_count ms

-- exactly the marks of the trail's literals are set
abbrev pub AreMarked : List Bool → List ℤ → Type 0
AreMarked marks literals = (l : ℤ) → is_marked marks l ≡ is_among literals l

-- there is a mark for the literal and one for its complement
abbrev pub IsWithin : ℕ → ℤ → Type 0
IsWithin room l = 2 * unsigned_abs l < room

abbrev pub AreWithin : ℕ → List ℤ → Type 0
AreWithin room c = All (IsWithin room) c

-- the literal of a unit clause: it has a mark, and no value yet
pub record IsOpenUnit (room : ℕ) (known : List ℤ) (l : ℤ) : Type 0 where
  pub within : IsWithin room l
  pub free : is_among known l ≡ false
