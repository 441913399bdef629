-- And-inverter graphs: what a node says, and what contracts see of a store.
use Rattle.std.specs.Prelude.{ℕ, Bool, true, false, ◌&&◌, ◌-◌, ◌*◌, ◌≡◌, ◌<◌, ◌⊎◌, List, length, get_or}
use Rattle.bfr_store.specs.declared.edge.Edge.{Edge}
use Rattle.bfr_store.specs.Edges.{node_of, truth_at}
use Rattle.bfr_store.specs.Truth.{truth}
use Rattle.aig_store.specs.declared.node.AigNode.{AigNode}
use Rattle.aig_store.specs.declared.node.AigNode.TheVariants.{Constant, Var, And}

-- the nodes, of which the first is the constant true; how many there may be besides it; one more than the greatest
-- variable that was made, or 0
pub record Graph : Type 0 where
  pub nodes : List AigNode
  pub limit : ℕ
  pub width : ℕ

-- what a node says, where these are the truths of the nodes before it
abbrev pub node_value : List Bool → (ℕ → Bool) → AigNode → Bool
node_value values a Constant = true
node_value values a (Var k) = a k
node_value values a (And x y) = truth_at values x && truth_at values y

-- the truth of an edge over these nodes, under this assignment
unfoldable pub truth_of : List AigNode → Edge → (ℕ → Bool) → Bool
truth_of nodes e a = truth node_value nodes e a

-- what a node says by what its edges say
abbrev pub says : List AigNode → AigNode → (ℕ → Bool) → Bool
says nodes Constant a = true
says nodes (Var k) a = a k
says nodes (And x y) a = truth_of nodes x a && truth_of nodes y a

abbrev pub IsLive : Graph → Edge → Type 0
IsLive s e = node_of e < length s.nodes

-- the nodes but the constant's
abbrev pub count_of : Graph → ℕ
count_of s = length s.nodes - 1

-- the edge of the constant true, or of the constant false
abbrev pub constant_of : Bool → Edge
constant_of true = record { number = 0 }
constant_of false = record { number = 1 }

-- the node of this number
abbrev pub node_at : List AigNode → ℕ → AigNode
node_at nodes i = get_or nodes i Constant

-- the edge of this node that is not complemented
abbrev pub edge_at : ℕ → Edge
edge_at i = record { number = 2 * i }

-- the node is the conjunction of these two edges, in one order or the other
abbrev pub IsPair : Edge → Edge → AigNode → Type 0
IsPair x y n = (n ≡ And x y) ⊎ (n ≡ And y x)

-- no two nodes are the conjunction of the same two edges
abbrev pub HoldsPairsOnce : List AigNode → Type 0
HoldsPairsOnce nodes = (x y : Edge) (i j : ℕ) → i < length nodes → j < length nodes → IsPair x y (node_at nodes i) → IsPair x y (node_at nodes j) → i ≡ j
