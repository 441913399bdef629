-- Diagrams are canonical: no two edges say the same.
use Rattle.std.specs.Prelude.{ℕ, Bool, ◌≡◌}
use Rattle.bfr_store.specs.declared.edge.Edge.{Edge}
use Rattle.bdd_store.specs.Nodes.{Diagrams, IsLive, truth_of}

-- a live edge that says what this one says, under every assignment, is this one
pub record IsOnlyEdge (s : Diagrams) (e : Edge) : Type 0 where
  pub only : (f : Edge) → IsLive s f → ((a : ℕ → Bool) → truth_of s.nodes f a ≡ truth_of s.nodes e a) → f ≡ e
