-- The walk over a cone.
use Rattle.std.specs.Prelude.{ℕ, Bool, true, false, cond, ◌+◌, ◌≡◌, ◌<◌, ◌≤◌, ◌++◌, ◌∷◌, [], List, length, get_or, slice_set}
use Rattle.std.specs.List.{Contains}
use Rattle.bfr_store.specs.declared.edge.Edge.{Edge}
use Rattle.bfr_store.specs.Edges.{node_of}
use Rattle.aig_store.specs.declared.node.AigNode.{AigNode}
use Rattle.aig_store.specs.declared.node.AigNode.TheVariants.{And}
use Rattle.aig_store.specs.Nodes.{node_at}
use Rattle.cnf_rup.specs.Cones.{IsInCone, AreDifferent}
use Rattle.cnf_rup.specs.Marked.{unset_count}

-- a node is marked and put last, where it has no mark yet
abbrev pub seen_with : ℕ → List Bool → List Bool
seen_with i seen = cond (get_or seen i false) seen (slice_set seen i true)

abbrev pub cone_with : ℕ → List Bool → List ℕ → List ℕ
cone_with i seen cone = cond (get_or seen i false) cone (cone ++ i ∷ [])

-- the same for the nodes below a node
abbrev pub seen_below : AigNode → List Bool → List Bool
seen_below (And x y) seen = seen_with (node_of y) (seen_with (node_of x) seen)
seen_below _ seen = seen

abbrev pub cone_below : AigNode → List Bool → List ℕ → List ℕ
cone_below (And x y) seen cone = cone_with (node_of y) (seen_with (node_of x) seen) (cone_with (node_of x) seen cone)
cone_below _ seen cone = cone

-- a walk has come to these nodes, each once, and exactly they have marks
pub record IsFound (nodes : List AigNode) (root : ℕ) (seen : List Bool) (cone : List ℕ) : Type 0 where
  pub one_each : length seen ≡ root + 1
  pub once : AreDifferent cone
  pub sound : (i : ℕ) → Contains cone i → IsInCone nodes root i
  pub within : (i : ℕ) → Contains cone i → i ≤ root
  pub marked : (i : ℕ) → Contains cone i → get_or seen i false ≡ true
  pub listed : (i : ℕ) → get_or seen i false ≡ true → Contains cone i
  pub count : length cone + unset_count seen ≡ root + 1

-- of the nodes before this place it has come to the nodes below: the list is the walk's queue
abbrev pub IsClosed : List AigNode → List ℕ → ℕ → Type 0
IsClosed nodes cone place = (k : ℕ) (x y : Edge) → k < place → node_at nodes (get_or cone k 0) ≡ And x y → Contains cone (node_of x) × Contains cone (node_of y)

pub record IsSearch (nodes : List AigNode) (root : ℕ) (seen : List Bool) (cone : List ℕ) (place : ℕ) : Type 0 where
  pub found : IsFound nodes root seen cone
  pub closed : IsClosed nodes cone place
  pub begins : Contains cone root
  pub reached : place ≤ length cone
