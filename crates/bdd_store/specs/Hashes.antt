-- By what a node is found.
use Rattle.std.specs.Prelude.{ℕ}
use Rattle.node_table.specs.Hashes.{hash_of}
use Rattle.bdd_store.specs.declared.node.Node.{Node}

-- the hash of a node's words
unfoldable pub node_hash : Node → ℕ
node_hash n = hash_of n.variable n.high.number n.low.number
