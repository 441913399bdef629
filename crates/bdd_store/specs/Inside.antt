-- What a store keeps true of its nodes and its tables.
use Rattle.std.specs.Prelude.{ℕ, Bool, cond, min, ◌+◌, ◌%◌, ◌≡◌, ◌≢◌, ◌≤◌, ◌<◌, List, length, get_or}
use Rattle.bfr_store.specs.declared.edge.Edge.{Edge}
use Rattle.bfr_store.specs.Edges.{node_of}
use Rattle.bdd_store.specs.declared.node.Node.{Node}
use Rattle.bdd_store.specs.declared.entry.Entry.{Entry}
use Rattle.bdd_store.specs.Nodes.{Diagrams, IsLive, past, constant_node, node_at, top_of, truth_of}

-- a node that may have this number: its edges differ, its high edge is not complemented, and both lead to nodes with
-- smaller numbers and greater variables
pub record IsBranch (nodes : List Node) (width i : ℕ) (n : Node) : Type 0 where
  pub high_below : node_of n.high < i
  pub low_below : node_of n.low < i
  pub regular : n.high.number % 2 ≡ 0
  pub differ : n.high.number ≢ n.low.number
  pub above_high : n.variable < top_of nodes n.high
  pub above_low : n.variable < top_of nodes n.low
  pub in_width : n.variable < width

pub record IsOrdered (nodes : List Node) (width : ℕ) : Type 0 where
  pub some : 0 < length nodes
  pub first : node_at nodes 0 ≡ constant_node
  pub branches : (i : ℕ) → 0 < i → i < length nodes → IsBranch nodes width i (node_at nodes i)
  pub narrow : width ≤ past

-- no two nodes are equal
abbrev pub IsDistinct : List Node → Type 0
IsDistinct nodes = (i j : ℕ) → i < length nodes → j < length nodes → node_at nodes i ≡ node_at nodes j → i ≡ j

-- what the calls of a store leave as it was; the nodes are still in order, and no two are equal
pub record Extends (old new : Diagrams) : Type 0 where
  pub stays : (e : Edge) → IsLive old e → IsLive new e
  pub same : (e : Edge) (a : ℕ → Bool) → IsLive old e → truth_of new.nodes e a ≡ truth_of old.nodes e a
  pub tops : (e : Edge) → IsLive old e → top_of new.nodes e ≡ top_of old.nodes e
  pub same_limit : new.limit ≡ old.limit
  pub same_width : new.width ≡ old.width
  pub no_fewer : length old.nodes ≤ length new.nodes
  pub ordered : IsOrdered new.nodes new.width
  pub distinct : IsDistinct new.nodes

-- the entry's answer is its high edge where its test is true, and its low edge elsewhere
pub record IsAnswer (nodes : List Node) (e : Entry) : Type 0 where
  pub test_live : node_of e.test < length nodes
  pub high_live : node_of e.high < length nodes
  pub low_live : node_of e.low < length nodes
  pub answer_live : node_of e.answer < length nodes
  pub above : min (top_of nodes e.test) (min (top_of nodes e.high) (top_of nodes e.low)) ≤ top_of nodes e.answer
  pub truth : (a : ℕ → Bool) → truth_of nodes e.answer a ≡ cond (truth_of nodes e.test a) (truth_of nodes e.high a) (truth_of nodes e.low a)

abbrev pub AreAnswers : List Node → List Entry → Type 0
AreAnswers nodes entries = (i : ℕ) (d : Entry) → i < length entries → IsAnswer nodes (get_or entries i d)

pub record IsComputed (nodes : List Node) (entries : List Entry) : Type 0 where
  pub some : 0 < length entries
  pub answers : AreAnswers nodes entries

pub record IsStore (nodes : List Node) (entries : List Entry) (limit width : ℕ) : Type 0 where
  pub ordered : IsOrdered nodes width
  pub distinct : IsDistinct nodes
  pub computed : IsComputed nodes entries
  pub room : length nodes ≤ limit + 1
