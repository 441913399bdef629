-- What a store keeps true of its nodes and its tables.
use Rattle.std.specs.Prelude.{ℕ, Bool, false, ◌+◌, ◌≡◌, ◌≤◌, ◌<◌, List, length, get_or}
use Rattle.bfr_store.specs.declared.edge.Edge.{Edge}
use Rattle.bfr_store.specs.Edges.{node_of}
use Rattle.aig_store.specs.declared.node.AigNode.{AigNode}
use Rattle.aig_store.specs.declared.node.AigNode.TheVariants.{Constant, Var, And}
use Rattle.aig_store.specs.declared.mark.Mark.{Mark}
use Rattle.aig_store.specs.Nodes.{Graph, IsLive, node_at, truth_of}

-- the edges of a conjunction that may have this number: neither is constant, the nodes differ, the smaller one is first,
-- and both have smaller numbers
pub record IsGate (i : ℕ) (x y : Edge) : Type 0 where
  pub proper : 0 < node_of x
  pub apart : node_of x < node_of y
  pub below : node_of y < i

-- a node that may have this number, which is not 0
abbrev pub IsProper : ℕ → ℕ → AigNode → Type 0
IsProper width i Constant = ⊥
IsProper width i (Var k) = k < width
IsProper width i (And x y) = IsGate i x y

pub record IsOrdered (nodes : List AigNode) (width : ℕ) : Type 0 where
  pub some : 0 < length nodes
  pub first : node_at nodes 0 ≡ Constant
  pub proper : (i : ℕ) → 0 < i → i < length nodes → IsProper width i (node_at nodes i)

-- no two nodes are equal
abbrev pub IsDistinct : List AigNode → Type 0
IsDistinct nodes = (i j : ℕ) → i < length nodes → j < length nodes → node_at nodes i ≡ node_at nodes j → i ≡ j

-- what the calls of a store leave as it was; the nodes are still in order, and no two are equal
pub record Extends (old new : Graph) : Type 0 where
  pub stays : (e : Edge) → IsLive old e → IsLive new e
  pub same : (e : Edge) (a : ℕ → Bool) → IsLive old e → truth_of new.nodes e a ≡ truth_of old.nodes e a
  pub same_limit : new.limit ≡ old.limit
  pub same_width : new.width ≡ old.width
  pub no_fewer : length old.nodes ≤ length new.nodes
  pub ordered : IsOrdered new.nodes new.width
  pub distinct : IsDistinct new.nodes

-- the call of a node's mark
abbrev pub call_at : List Mark → ℕ → ℕ
call_at marks i = (get_or marks i (record { call = 0; value = false })).call

-- what a node's mark says of it
abbrev pub marked_value : List Mark → ℕ → Bool
marked_value marks i = (get_or marks i (record { call = 0; value = false })).value

-- no mark is of a later call
abbrev pub AreMarkedBy : ℕ → List Mark → Type 0
AreMarkedBy call marks = (i : ℕ) → i < length marks → call_at marks i ≤ call

pub record IsStore (nodes : List AigNode) (marks : List Mark) (calls limit width : ℕ) : Type 0 where
  pub ordered : IsOrdered nodes width
  pub distinct : IsDistinct nodes
  pub one_each : length marks ≡ length nodes
  pub marked : AreMarkedBy calls marks
  pub room : length nodes ≤ limit + 1
