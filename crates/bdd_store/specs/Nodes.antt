-- Ordered decision diagrams: what a node says, and what contracts see of a store.
use Rattle.std.specs.Prelude.{ℕ, Bool, true, false, cond, eqb, ◌-◌, ◌≡◌, ◌<◌, List, length, get_or}
use Rattle.bfr_store.specs.declared.edge.Edge.{Edge}
use Rattle.bfr_store.specs.Edges.{node_of, truth_at}
use Rattle.bfr_store.specs.Truth.{truth}
use Rattle.bdd_store.specs.declared.node.Node.{Node}

-- the nodes, of which the first is the constant true; how many there may be besides it; one more than the greatest
-- variable that was made, or 0
pub record Diagrams : Type 0 where
  pub nodes : List Node
  pub limit : ℕ
  pub width : ℕ

-- where the constant's node stands: past every variable
abbrev pub past : ℕ
past = 4294967295

abbrev pub constant_node : Node
constant_node = record { variable = past; high = record { number = 0 }; low = record { number = 0 } }

-- the constant is true, and any other node is its high edge where its variable is true, and its low edge elsewhere
abbrev pub node_value : List Bool → (ℕ → Bool) → Node → Bool
node_value values a n = cond (eqb n.variable past) true (cond (a n.variable) (truth_at values n.high) (truth_at values n.low))

-- the truth of an edge over these nodes, under this assignment
unfoldable pub truth_of : List Node → Edge → (ℕ → Bool) → Bool
truth_of nodes e a = truth node_value nodes e a

abbrev pub IsLive : Diagrams → Edge → Type 0
IsLive s e = node_of e < length s.nodes

-- the nodes but the constant's
abbrev pub count_of : Diagrams → ℕ
count_of s = length s.nodes - 1

-- the edge of the constant true, or of the constant false
abbrev pub constant_of : Bool → Edge
constant_of true = record { number = 0 }
constant_of false = record { number = 1 }

-- the node of this number
abbrev pub node_at : List Node → ℕ → Node
node_at nodes i = get_or nodes i constant_node

-- the variable that an edge's node tests
unfoldable pub top_of : List Node → Edge → ℕ
top_of nodes e = (node_at nodes (node_of e)).variable

-- some live edge stands for the function
abbrev pub IsHeld : Diagrams → ((ℕ → Bool) → Bool) → Type 0
IsHeld s function = (e : Edge) × IsLive s e × ((a : ℕ → Bool) → truth_of s.nodes e a ≡ function a)
