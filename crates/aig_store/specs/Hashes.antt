-- By what a node is found.
use Rattle.std.specs.Prelude.{ℕ}
use Rattle.node_table.specs.Hashes.{hash_of}
use Rattle.aig_store.specs.declared.node.AigNode.{AigNode}
use Rattle.aig_store.specs.declared.node.AigNode.TheVariants.{Constant, Var, And}

abbrev pub first_key : AigNode → ℕ
first_key Constant = 0
first_key (Var k) = k
first_key (And x y) = x.number

abbrev pub second_key : AigNode → ℕ
second_key Constant = 0
second_key (Var k) = 0
second_key (And x y) = y.number

-- the hash of a node's words
unfoldable pub node_hash : AigNode → ℕ
node_hash n = hash_of (first_key n) (second_key n) 0
