-- The truth of a symbolic object on its way.
use Rattle.std.specs.Prelude.{ℕ, Bool, not, ◌≡◌, ◌<◌, List, length}
use Rattle.bfr_store.specs.declared.edge.Edge.{Edge}
use Rattle.bfr_store.specs.declared.meaning.Meaning.{Ghosts}
use Rattle.gl_logic.specs.ObjectEq.{is_nil}
use Rattle.sym_objects.specs.declared.sob.Sob.{Sob}
use Rattle.sym_objects.specs.declared.memo.Key.{Key}
use Rattle.sym_objects.specs.declared.node.Node.{Node}
use Rattle.sym_objects.specs.declared.node.Node.TheVariants as node
use Rattle.sym_objects.specs.Nodes.{node_at}
use Rattle.sym_objects.specs.Seen.{SobsSeen, IsLive, stands_for}

-- the edge is true exactly where the node's object is not NIL
pub record IsTruthOf {B : Type 0} (g : Ghosts B) (s : SobsSeen B) (x : Sob) (e : Edge) : Type 0 where
  pub live : IsLive s x
  pub edge : g.live s.store e
  pub truth : (a : ℕ → Bool) → g.truth_of s.store e a ≡ not (is_nil (stands_for g s x a))

-- z is a choice of x and y
pub record IsChoiceOf (nodes : List Node) (x y z : Sob) : Type 0 where
  pub first : x.number < length nodes
  pub second : y.number < length nodes
  pub whole : z.number < length nodes
  pub test : Edge
  pub is : node_at nodes z ≡ node.Choice test x y

-- the node that a key of one number means
abbrev pub sob_of : Key → Sob
sob_of k = record { number = k.first }

abbrev pub number_of : Sob → ℕ
number_of x = x.number
