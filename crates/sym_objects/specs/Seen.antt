-- A table of symbolic objects over a store of bit functions, and what its nodes stand for.
use Rattle.std.specs.Prelude.{ℕ, Bool, true, false, ◌||◌, eqb, ◌≡◌, ◌≢◌, ◌<◌, ◌⊎◌, List, [], length, AllPairs, get_or}
use Rattle.bfr_store.specs.declared.edge.Edge.{Edge}
use Rattle.bfr_store.specs.declared.meaning.Meaning.{Ghosts}
use Rattle.gl_logic.specs.Object.{Object, nil}
use Rattle.sym_objects.specs.declared.sob.Sob.{Sob}
use Rattle.sym_objects.specs.declared.node.Node.{Node}
use Rattle.sym_objects.specs.Nodes.{values_from, object_by, constant_by, bits_by, EdgesLive}

-- what contracts see of a table: the store, the nodes in the order of their making, and how many there may be
pub record SobsSeen (B : Type 0) : Type 0 where
  pub store : B
  pub nodes : List Node
  pub limit : ℕ

-- the node is there
abbrev pub IsLive : {B : Type 0} → SobsSeen B → Sob → Type 0
IsLive s x = x.number < length s.nodes

-- the object that a node stands for under an assignment: the plain evaluation of the list of nodes, from the truths of the
-- edges
unfoldable pub stands_for : {B : Type 0} → Ghosts B → SobsSeen B → Sob → (ℕ → Bool) → Object
stands_for g s x a = get_or (values_from nil (object_by (λ e. g.truth_of s.store e a)) [] s.nodes) x.number nil

-- the edge is one of the two constant ones
abbrev pub is_constant_edge : {B : Type 0} → Ghosts B → Edge → Bool
is_constant_edge g e = eqb e.number (g.constant_edge true).number || eqb e.number (g.constant_edge false).number

-- whether a node is constant: a character, a symbol or a string; a Boolean or an integer whose edges are constant ones; a
-- cons of two constant nodes; never a choice
unfoldable pub is_constant : {B : Type 0} → Ghosts B → SobsSeen B → Sob → Bool
is_constant g s x = get_or (values_from false (constant_by (is_constant_edge g)) [] s.nodes) x.number false

abbrev pub IsConstant : {B : Type 0} → Ghosts B → SobsSeen B → Sob → Type 0
IsConstant g s x = is_constant g s x ≡ true

-- the bits of a node that is an integer
unfoldable pub bits_in : List Node → Sob → List Edge
bits_in nodes x = get_or (values_from [] bits_by [] nodes) x.number []

-- every edge in the nodes is live in the store. No invariant of the table, since `Sobs::store` lends the store
abbrev pub IsWhole : {B : Type 0} → Ghosts B → SobsSeen B → Type 0
IsWhole g s = (i : ℕ) (d : Node) → i < length s.nodes → EdgesLive (g.live s.store) (get_or s.nodes i d)

-- no node is there twice
abbrev pub IsEachOnce : List Node → Type 0
IsEachOnce nodes = AllPairs (λ m n. m ≢ n) nodes

-- the table or its store holds as many nodes as its limit allows
abbrev pub IsFull : {B : Type 0} → Ghosts B → SobsSeen B → Type 0
IsFull g s = (length s.nodes ≡ s.limit) ⊎ (g.count_of s.store ≡ g.limit_of s.store)
