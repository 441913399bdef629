-- Conjuncts that are dealt out to the elements of a list: to each those in which a term stands by which the element goes.
use Rattle.std.specs.Prelude.{◌≡◌, ℕ, ◌<◌, Bool, true, false, ◌||◌, List, [], ◌∷◌, length, get_or, ◌⊎◌}
use Rattle.gl_logic.specs.Exp.{Exp, Exps, If, Prim, Call, Last, More}
use Rattle.coverage.specs.Places.{is_element}

-- ---- whether a term of a set stands in a term, under calls and `if`
abbrev mutual
  pub has_part : (Exp → Bool) → Exp → Bool
  has_part subject (If a b d) = subject (If a b d) || (has_part subject a || (has_part subject b || has_part subject d))
  has_part subject (Prim p ts) = subject (Prim p ts) || any_part subject ts
  has_part subject (Call f ts) = subject (Call f ts) || any_part subject ts
  has_part subject t = subject t

  pub any_part : (Exp → Bool) → Exps → Bool
  any_part subject Last = false
  any_part subject (More t ts) = has_part subject t || any_part subject ts

abbrev pub Among : Exp → List Exp → Type 0
Among t [] = ⊥
Among t (u ∷ us) = (t ≡ u) ⊎ Among t us

-- ---- one list for each of n elements
abbrev pub list_of : List (List Exp) → ℕ → List Exp
list_of lists j = get_or lists j []

-- a term that is put last in the lists that are hit, and maybe in others
pub record Adds (hit : ℕ → Bool) (t : Exp) (old new : List (List Exp)) : Type 0 where
  pub same_count : length new ≡ length old
  pub kept : (j : ℕ) (u : Exp) → Among u (list_of old j) → Among u (list_of new j)
  pub added : (j : ℕ) → j < length old → hit j ≡ true → Among t (list_of new j)
  pub only : (j : ℕ) (u : Exp) → Among u (list_of new j) → Among u (list_of old j) ⊎ (u ≡ t)

-- n lists of none
abbrev pub AreNone : ℕ → List (List Exp) → Type 0
AreNone n lists = (length lists ≡ n) × ((j : ℕ) → list_of lists j ≡ [])

-- what is said, dealt out
pub record AreParts (n : ℕ) (subject : Exp → Bool) (said : List Exp) (lists : List (List Exp)) : Type 0 where
  pub count : length lists ≡ n
  pub kept : (j : ℕ) → j < n → (t : Exp) → Among t said → has_part (is_element n subject j) t ≡ true → Among t (list_of lists j)
  pub of_said : (j : ℕ) (t : Exp) → Among t (list_of lists j) → Among t said
