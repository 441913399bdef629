-- An edge: the number of its node doubled, and one more where it is complemented.
use Rattle.std.specs.Prelude.{ℕ, Bool, true, false, not, ◌/◌, ◌%◌, List, get_or, eqb}
use Rattle.bfr_store.specs.declared.edge.Edge.{Edge}

-- the number of the edge's node
abbrev pub node_of : Edge → ℕ
node_of e = e.number / 2

-- whether the edge is complemented
abbrev pub is_flipped : Edge → Bool
is_flipped e = eqb (e.number % 2) 1

-- exactly one of two holds
abbrev pub xor : Bool → Bool → Bool
xor true b = not b
xor false b = b

-- the truth of an edge, where these are the truths of the nodes
abbrev pub truth_at : List Bool → Edge → Bool
truth_at values e = xor (is_flipped e) (get_or values (node_of e) true)
