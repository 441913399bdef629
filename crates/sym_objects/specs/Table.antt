-- Nodes in a table that finds each of them again.
use Rattle.std.specs.Prelude.{ℕ, Bool, ◌+◌, ◌≡◌, ◌≤◌, ◌<◌, List, length, get_or}
use Rattle.sym_objects.specs.declared.node.Node.{Node}
use Rattle.sym_objects.specs.declared.node.Node.TheVariants as node
use Rattle.sym_objects.specs.Hashes.{bucket_of}
use Rattle.sym_objects.specs.Seen.{IsEachOnce}

-- the nodes in the order of their making, a mark for each of them, and how many nodes there may be
pub record Marked : Type 0 where
  pub nodes : List Node
  pub marks : List Bool
  pub limit : ℕ

abbrev pub numbered : List Node → ℕ → Node
numbered nodes i = get_or nodes i (node.Character 0)

-- each bucket's chain begins at its newest node, and leads from each node to the next older one of the bucket; heads and
-- links are numbers of nodes and one more, and 0 ends a chain
pub record IsChained (count : ℕ) (nodes : List Node) (next heads : List ℕ) : Type 0 where
  pub one_each : length next ≡ length nodes
  pub buckets : length heads ≡ count
  pub some : 0 < count
  pub from_head : (i : ℕ) → i < length nodes → i < get_or heads (bucket_of count (numbered nodes i)) 0
  pub from_node : (i j : ℕ) → i < j → j < length nodes → bucket_of count (numbered nodes i) ≡ bucket_of count (numbered nodes j) → i < get_or next j 0
  pub head_in : (b : ℕ) → b < count → get_or heads b 0 ≤ length nodes
  pub next_in : (j : ℕ) → j < length nodes → get_or next j 0 ≤ j
  pub head_bucket : (b k : ℕ) → b < count → k + 1 ≡ get_or heads b 0 → bucket_of count (numbered nodes k) ≡ b
  pub next_bucket : (j k : ℕ) → j < length nodes → k + 1 ≡ get_or next j 0 → bucket_of count (numbered nodes k) ≡ bucket_of count (numbered nodes j)

-- what a table's fields always are: no node twice, each with a mark, in chains, and room for as many as there may be
pub record IsTable (nodes : List Node) (marks : List Bool) (next heads : List ℕ) (limit node_room mark_room next_room : ℕ) : Type 0 where
  pub within : length nodes ≤ limit
  pub different : IsEachOnce nodes
  pub marked : length marks ≡ length nodes
  pub chained : IsChained (length heads) nodes next heads
  pub nodes_fit : limit ≤ node_room
  pub marks_fit : limit ≤ mark_room
  pub links_fit : limit ≤ next_room
  pub small : limit < 4294967296
