-- What the book of a search's last decision shows.
use Rattle.std.specs.Prelude.{◌≡◌, ℕ, true, false, Some}
use Rattle.cnf_rup.specs.Books.{BookSeen, holds_empty}
use Rattle.sat_core.specs.Decisions.{IsSmall, SatSeen}

-- the book of the last decision is there, the empty clause is in it, and its first clauses are no more than its graph gives
abbrev pub HoldsEmpty : SatSeen → Type 0
HoldsEmpty s = (b : BookSeen) × (s.book ≡ Some b) × (holds_empty b.entries ≡ true) × IsSmall s.graph.nodes b

-- it is there, all decisions have learned so many clauses, and the empty one is not among those of the last
abbrev pub IsGivenUp : ℕ → SatSeen → Type 0
IsGivenUp clauses s = (b : BookSeen) × (s.book ≡ Some b) × (s.learned ≡ clauses) × (holds_empty b.entries ≡ false)
