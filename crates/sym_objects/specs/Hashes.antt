-- Where a table keeps a node.
use Rattle.std.specs.Prelude.{ℕ, ◌+◌, ◌*◌, ◌/◌, ◌%◌, ◌^◌}
use Rattle.sym_objects.specs.declared.node.Node.{Node}
use Rattle.sym_objects.specs.declared.node.Node.TheVariants as node

-- the hash of three numbers, of 64 bits
unfoldable pub hash_of : ℕ → ℕ → ℕ → ℕ
hash_of first second third = (first * 625341585 + second * 1013904223 + third * 521288629) * 11400714819323198485 % 2 ^ 64

-- the hash of a node's words
unfoldable pub node_hash : Node → ℕ
node_hash (node.Character c) = hash_of 1 c 0
node_hash (node.Symbol t) = hash_of 2 (t.number / 2 ^ 32) (t.number % 2 ^ 32)
node_hash (node.Text t) = hash_of 3 (t.number / 2 ^ 32) (t.number % 2 ^ 32)
node_hash (node.Boolean e) = hash_of 4 e.number 0
node_hash (node.Sign e) = hash_of 5 e.number 0
node_hash (node.Bit e r) = hash_of 6 e.number r.number
node_hash (node.Pair a d) = hash_of 7 a.number d.number
node_hash (node.Choice e a b) = hash_of e.number a.number b.number

-- the bucket that a node is kept in, of so many
unfoldable pub bucket_of : ℕ → Node → ℕ
bucket_of count n = node_hash n * count / 2 ^ 64
