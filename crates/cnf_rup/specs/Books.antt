-- Clause books: the first clauses, and behind them those that were learned, each with the hints that show it.
use Rattle.std.specs.Prelude.{ℕ, ℤ, Bool, true, false, ◌+◌, ◌≡◌, ◌≤◌, ◌<◌, ◌^◌, List, [], ◌∷◌, ◌++◌, length, map, take, drop, All, Some}
use Rattle.std.specs.List.{list_any}
use Rattle.cnf_rup.specs.declared.clause.Entry.{Entry}
use Rattle.cnf_rup.specs.Literals.{IsClause, Follows}
use Rattle.cnf_rup.specs.Shown.{IsShown, first_unshown}
use Rattle.cnf_rup.specs.declared.book.Learn.{Learn}
use Rattle.cnf_rup.specs.declared.book.Learn.TheVariants.{Taken, NotShown}

-- the entries in order, and how many of them are the first ones
pub record BookSeen : Type 0 where
  pub entries : List Entry
  pub first : ℕ

abbrev pub clauses_of : List Entry → List (List ℤ)
clauses_of entries = map (λ e. e.clause) entries

abbrev pub first_clauses : BookSeen → List (List ℤ)
first_clauses b = clauses_of (take b.first b.entries)

abbrev pub log_of : BookSeen → List Entry
log_of b = drop b.first b.entries

-- each entry of the log is shown by its hints from the clauses and the entries before it
abbrev pub IsLogOk : List (List ℤ) → List Entry → Type 0
IsLogOk clauses [] = Unit {0}
IsLogOk clauses (e ∷ es) = IsShown clauses e.clause e.hints × IsLogOk (clauses ++ e.clause ∷ []) es

abbrev pub is_empty : List ℤ → Bool
is_empty [] = true
is_empty (l ∷ ls) = false

-- whether the empty clause is in the book
abbrev pub holds_empty : List Entry → Bool
holds_empty entries = list_any (λ e. is_empty e.clause) entries

-- what every book keeps true
pub record IsBook (b : BookSeen) : Type 0 where
  pub within : b.first ≤ length b.entries
  pub small : length b.entries < 2 ^ 32
  pub clauses : All (λ e. IsClause e.clause) b.entries
  pub bare : All (λ e. e.hints ≡ []) (take b.first b.entries)
  pub hints : All (λ e. All (λ h. (0 < h) × (h < 2 ^ 32)) e.hints) b.entries
  pub log : IsLogOk (first_clauses b) (log_of b)

-- every clause of the book follows from the first ones
abbrev pub AllFollow : BookSeen → Type 0
AllFollow b = All (Follows (first_clauses b)) (clauses_of b.entries)

-- what `learn` answers, and the book after it: the clause is taken where the hints show it, and then it is the last one;
-- else the place is the one where the hints stop, and the book is as before
abbrev pub IsAnswer : BookSeen → BookSeen → Entry → Learn → Type 0
IsAnswer old new e (Taken id) = IsShown (clauses_of old.entries) e.clause e.hints × (id ≡ length old.entries + 1) × (new ≡ record old { entries = old.entries ++ e ∷ [] })
IsAnswer old new e (NotShown i) = (first_unshown (clauses_of old.entries) e.clause e.hints ≡ Some i) × (new ≡ old)
