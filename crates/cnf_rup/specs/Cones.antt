-- Cones: the nodes that an edge stands on.
use Rattle.std.specs.Prelude.{ℕ, ◌≡◌, ◌≢◌, ◌<◌, List, length, get_or}
use Rattle.std.specs.List.{Contains}
use Rattle.bfr_store.specs.declared.edge.Edge.{Edge}
use Rattle.bfr_store.specs.Edges.{node_of}
use Rattle.aig_store.specs.declared.node.AigNode.{AigNode}
use Rattle.aig_store.specs.declared.node.AigNode.TheVariants.{And}
use Rattle.aig_store.specs.Nodes.{node_at}

-- the node of this number is in the cone of the root: it is the root, or of an edge of a conjunction in the cone
pub data IsInCone (nodes : List AigNode) (root : ℕ) : ℕ → Type 0 where
  at_root : IsInCone nodes root root
  at_first : (i : ℕ) (x y : Edge) → IsInCone nodes root i → node_at nodes i ≡ And x y → IsInCone nodes root (node_of x)
  at_second : (i : ℕ) (x y : Edge) → IsInCone nodes root i → node_at nodes i ≡ And x y → IsInCone nodes root (node_of y)

-- no two of the numbers are equal
abbrev pub AreDifferent : List ℕ → Type 0
AreDifferent numbers = (i j : ℕ) → i < j → j < length numbers → get_or numbers i 0 ≢ get_or numbers j 0

-- the nodes of the cone, each once
pub record IsCone (nodes : List AigNode) (root : ℕ) (cone : List ℕ) : Type 0 where
  pub once : AreDifferent cone
  pub sound : (i : ℕ) → Contains cone i → IsInCone nodes root i
  pub whole : (i : ℕ) → IsInCone nodes root i → Contains cone i
