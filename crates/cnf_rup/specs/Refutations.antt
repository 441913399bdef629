-- Books that refute their first clauses, and can be written.
use Rattle.std.specs.Prelude.{◌≡◌, ◌≤◌, true}
use Rattle.std.specs.List.{All}
use Rattle.cnf_rup.specs.Books.{BookSeen, IsBook, first_clauses, holds_empty}
use Rattle.cnf_rup.specs.Literals.{IsUpTo}

-- a book that has the empty clause, and can be written: nothing satisfies its first clauses
pub record IsRefutation (b : BookSeen) : Type 0 where
  pub book : IsBook b
  pub empty : holds_empty b.entries ≡ true
  pub few : b.first ≤ 100000000
  pub variables : All (IsUpTo 10000000) (first_clauses b)
