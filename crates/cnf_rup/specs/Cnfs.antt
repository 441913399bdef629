-- The clauses of an edge's cone, by Tseitin's translation: node i is variable i + 1.
use Rattle.std.specs.Prelude.{ℕ, suc, ℤ, pos, negsuc, Bool, true, cond, ◌↔◌, ◌≡◌, ◌<◌, List, [], ◌∷◌, ◌++◌, length, map}
use Rattle.std.specs.Prelude.{neg_ℤ}
use Rattle.std.specs.List.{flat_map}
use Rattle.bfr_store.specs.declared.edge.Edge.{Edge}
use Rattle.bfr_store.specs.Edges.{node_of, is_flipped}
use Rattle.aig_store.specs.declared.node.AigNode.{AigNode}
use Rattle.aig_store.specs.declared.node.AigNode.TheVariants.{Constant, Var, And}
use Rattle.aig_store.specs.Nodes.{node_at, truth_of}
use Rattle.cnf_rup.specs.declared.clause.Entry.{Entry}
use Rattle.cnf_rup.specs.Cones.{IsCone}
use Rattle.cnf_rup.specs.Literals.{SatisfiesAll}

-- the literal of a node
abbrev pub literal_at : ℕ → ℤ
literal_at i = pos (suc i)

-- the literal of an edge: a complemented edge is the negative literal of its node
abbrev pub literal_of : Edge → ℤ
literal_of e = cond (is_flipped e) (negsuc (node_of e)) (pos (suc (node_of e)))

-- the clauses of a node g: of the conjunction of a and b they are (-g a), (-g b) and (g -a -b), and the constant true
-- gives its unit clause
abbrev pub clauses_of_node : ℕ → AigNode → List (List ℤ)
clauses_of_node i Constant = (literal_at i ∷ []) ∷ []
clauses_of_node i (Var k) = []
clauses_of_node i (And x y) = (negsuc i ∷ literal_of x ∷ []) ∷ (negsuc i ∷ literal_of y ∷ []) ∷ (literal_at i ∷ neg_ℤ (literal_of x) ∷ neg_ℤ (literal_of y) ∷ []) ∷ []

abbrev pub clauses_of_cone : List AigNode → List ℕ → List (List ℤ)
clauses_of_cone nodes cone = flat_map (λ i. clauses_of_node i (node_at nodes i)) cone

-- the clauses of the nodes of the edge's cone, each node's once, and the unit clause of the edge
pub record IsCnfOf (nodes : List AigNode) (e : Edge) (clauses : List (List ℤ)) : Type 0 where
  pub cone : List ℕ
  pub is_cone : IsCone nodes (node_of e) cone
  pub exact : clauses ≡ clauses_of_cone nodes cone ++ (literal_of e ∷ []) ∷ []

-- b gives the graph's variables the values that a gives them
abbrev pub IsExtension : List AigNode → (ℕ → Bool) → (ℕ → Bool) → Type 0
IsExtension nodes a b = (i k : ℕ) → i < length nodes → node_at nodes i ≡ Var k → b (suc i) ≡ a k

-- a extends to an assignment that satisfies the clauses
abbrev pub Extends : List AigNode → List (List ℤ) → (ℕ → Bool) → Type 0
Extends nodes clauses a = (b : ℕ → Bool) × IsExtension nodes a b × SatisfiesAll b clauses

-- an assignment makes the edge true exactly where it extends to one that satisfies the clauses
abbrev pub IsTrueWhereSatisfied : List AigNode → Edge → List (List ℤ) → Type 0
IsTrueWhereSatisfied nodes e clauses = (a : ℕ → Bool) → (truth_of nodes e a ≡ true) ↔ Extends nodes clauses a

-- the clauses of a conjunction, by the literals of its node and of its edges, as entries without hints
abbrev pub entries_of_gate : ℤ → ℤ → ℤ → List Entry
entries_of_gate g x y = record { clause = neg_ℤ g ∷ x ∷ []; hints = [] } ∷ record { clause = neg_ℤ g ∷ y ∷ []; hints = [] } ∷ record { clause = g ∷ neg_ℤ x ∷ neg_ℤ y ∷ []; hints = [] } ∷ []

-- the clauses of a node, as entries without hints
abbrev pub entries_of_node : ℕ → AigNode → List Entry
entries_of_node i n = map (λ c. record { clause = c; hints = [] }) (clauses_of_node i n)

abbrev pub entries_of_cone : List AigNode → List ℕ → List Entry
entries_of_cone nodes cone = flat_map (λ i. entries_of_node i (node_at nodes i)) cone
