-- Literals whose variables are numbered anew.
use Rattle.std.specs.Prelude.{◌≡◌, ℕ, zero, suc, ℤ, pos, negsuc, neg_ℤ, ◌+◌, ◌==◌, if◌then◌else◌, List, [], ◌∷◌, map}
use Rattle.std.specs.Ordering.{int_eq}
use Rattle.sexp_print.specs.Printed.{BeginsWith}

-- the place of a variable in a list that begins at this place, and a place behind the list for one that it has not
abbrev pub rank_from : ℕ → List ℕ → ℕ → ℕ
rank_from place [] v = place + v
rank_from place (w ∷ ws) v = if v == w then place else rank_from (place + 1) ws v

-- the literal whose variable is the rank of this one's, from 1
abbrev pub ranked : List ℕ → ℤ → ℤ
ranked variables (pos zero) = pos 0
ranked variables (pos (suc v)) = pos (rank_from 1 variables (suc v))
ranked variables (negsuc v) = neg_ℤ (pos (rank_from 1 variables (suc v)))

-- these literals are those, ranked by any list that begins with these variables
abbrev pub AreRanked : List ℕ → List ℤ → List ℤ → Type 0
AreRanked variables old new = (all : List ℕ) → BeginsWith variables all → new ≡ map (ranked all) old

-- literals are equal exactly where they were, and complements
pub record IsRenaming (f : ℤ → ℤ) : Type 0 where
  pub same : (x y : ℤ) → int_eq (f x) (f y) ≡ int_eq x y
  pub odd : (x : ℤ) → f (neg_ℤ x) ≡ neg_ℤ (f x)

-- two lists of clauses, renamed alike
pub record AreRenamed (formula clauses new_formula new_clauses : List (List ℤ)) : Type 0 where
  pub by : ℤ → ℤ
  pub is : IsRenaming by
  pub formula_is : new_formula ≡ map (map by) formula
  pub clauses_is : new_clauses ≡ map (map by) clauses
