-- Books from which learned clauses are left out.
use Rattle.std.specs.Prelude.{ℕ, ℤ, ◌≡◌, ◌≤◌, List, [], ◌∷◌, ◌++◌, length, take}
use Rattle.cnf_rup.specs.Books.{BookSeen, clauses_of, holds_empty}

-- the first list is the second one without some of its clauses: the others stay in their order
pub data IsPartOf : List (List ℤ) → List (List ℤ) → Type 0 where
  at_end : IsPartOf [] []
  stays : (c : List ℤ) (some all : List (List ℤ)) → IsPartOf some all → IsPartOf (c ∷ some) (c ∷ all)
  left_out : (c : List ℤ) (some all : List (List ℤ)) → IsPartOf some all → IsPartOf some (c ∷ all)

-- the new book has the same first clauses, and its clauses are those of the old one without some that were learned
pub record IsShorter (old new : BookSeen) : Type 0 where
  pub first : new.first ≡ old.first
  pub begins : take new.first new.entries ≡ take old.first old.entries
  pub part : IsPartOf (clauses_of new.entries) (clauses_of old.entries)
  pub few : length new.entries ≤ length old.entries

-- the same, and the empty clause stays
pub record IsTrimmed (old new : BookSeen) : Type 0 where
  pub shorter : IsShorter old new
  pub empty : holds_empty new.entries ≡ holds_empty old.entries

-- the clause is learned, by some hints
abbrev pub LearnsClause : BookSeen → BookSeen → List ℤ → Type 0
LearnsClause old new c = (hints : List ℕ) × (new ≡ record old { entries = old.entries ++ record { clause = c; hints = hints } ∷ [] })

-- the new book has the same first clauses, and its clauses are some of those of the old one before this place
pub record IsAlong (old new : BookSeen) (place : ℕ) : Type 0 where
  pub first : new.first ≡ old.first
  pub begins : take new.first new.entries ≡ take old.first old.entries
  pub part : IsPartOf (clauses_of new.entries) (clauses_of (take place old.entries))
  pub within : old.first ≤ length new.entries
  pub few : length new.entries ≤ place
