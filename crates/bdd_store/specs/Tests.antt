-- A function by the first variable that it depends on.
use Rattle.std.specs.Prelude.{ℕ, Bool, cond, ◌≡◌, ◌≢◌, ◌<◌}
use Rattle.bfr_store.specs.declared.edge.Edge.{Edge}
use Rattle.bfr_store.specs.Edges.{node_of}
use Rattle.bdd_store.specs.declared.parts.Test.{Test}
use Rattle.bdd_store.specs.Nodes.{Diagrams, IsLive, truth_of}

-- assignments that agree below this variable make the same of the edge
abbrev pub DependsBelow : Diagrams → Edge → ℕ → Type 0
DependsBelow s e n = (a b : ℕ → Bool) → ((k : ℕ) → k < n → a k ≡ b k) → truth_of s.nodes e a ≡ truth_of s.nodes e b

-- and so do those that agree past it
abbrev pub DependsPast : Diagrams → Edge → ℕ → Type 0
DependsPast s e v = (a b : ℕ → Bool) → ((k : ℕ) → v < k → a k ≡ b k) → truth_of s.nodes e a ≡ truth_of s.nodes e b

-- the function is one edge where its variable is true, and another one elsewhere; both are of smaller nodes and depend on
-- later variables alone, and the function depends on the variable
pub record IsTest (s : Diagrams) (e : Edge) (t : Test) : Type 0 where
  pub high : IsLive s t.high
  pub low : IsLive s t.low
  pub high_below : node_of t.high < node_of e
  pub low_below : node_of t.low < node_of e
  pub in_width : t.variable < s.width
  pub differ : t.high.number ≢ t.low.number
  pub says : (a : ℕ → Bool) → truth_of s.nodes e a ≡ cond (a t.variable) (truth_of s.nodes t.high a) (truth_of s.nodes t.low a)
  pub high_past : DependsPast s t.high t.variable
  pub low_past : DependsPast s t.low t.variable
  pub needed : (n : ℕ) → DependsBelow s e n → t.variable < n
