-- Nodes in a table that finds each of them again by its hash.
use Rattle.std.specs.Prelude.{ℕ, ◌+◌, ◌≡◌, ◌≤◌, ◌<◌, List, length, map, get_or}
use Rattle.node_table.specs.Hashes.{bucket_of}

-- the nodes in the order of their making, and how many there may be
pub record Noted (N : Type 0) : Type 0 where
  pub nodes : List N
  pub room : ℕ

-- of nodes with these hashes: each bucket's chain begins at its newest node, and leads from each node to the next older one
-- of the bucket; heads and links are numbers of nodes and one more, and 0 ends a chain
pub record IsChained (count : ℕ) (hashes next heads : List ℕ) : Type 0 where
  pub one_each : length next ≡ length hashes
  pub buckets : length heads ≡ count
  pub some : 0 < count
  pub from_head : (i : ℕ) → i < length hashes → i < get_or heads (bucket_of count (get_or hashes i 0)) 0
  pub from_node : (i j : ℕ) → i < j → j < length hashes → bucket_of count (get_or hashes i 0) ≡ bucket_of count (get_or hashes j 0) → i < get_or next j 0
  pub head_in : (b : ℕ) → b < count → get_or heads b 0 ≤ length hashes
  pub next_in : (j : ℕ) → j < length hashes → get_or next j 0 ≤ j
  pub head_bucket : (b k : ℕ) → b < count → k + 1 ≡ get_or heads b 0 → bucket_of count (get_or hashes k 0) ≡ b
  pub next_bucket : (j k : ℕ) → j < length hashes → k + 1 ≡ get_or next j 0 → bucket_of count (get_or hashes k 0) ≡ bucket_of count (get_or hashes j 0)

-- what a table's fields always are: the nodes in chains, and room for as many as there may be
pub record IsTable {N : Type 0} (hash : N → ℕ) (nodes : List N) (next heads : List ℕ) (room node_room next_room : ℕ) : Type 0 where
  pub within : length nodes ≤ room
  pub chained : IsChained (length heads) (map hash nodes) next heads
  pub nodes_fit : room ≤ node_room
  pub links_fit : room ≤ next_room
  pub small : room < 4294967296
