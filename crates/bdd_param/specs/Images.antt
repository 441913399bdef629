-- What a vector of edges makes of an assignment, and when it parametrises a function.
use Rattle.std.specs.Prelude.{◌≡◌, ℕ, ◌<◌, Bool, true, List, length, map, All}
use Rattle.bfr_store.specs.declared.edge.Edge.{Edge}
use Rattle.bdd_store.specs.declared.node.Node.{Node}
use Rattle.bdd_store.specs.Nodes.{Diagrams, IsLive, truth_of}
use Rattle.gl_logic.specs.Assignments.{value_at}

-- the assignment whose bit k is the truth of edge k
abbrev pub image : List Node → List Edge → (ℕ → Bool) → ℕ → Bool
image nodes edges a = value_at (map (λ e. truth_of nodes e a) edges)

-- there is an edge for each variable below the width; at every assignment the vector makes the function true, and at one that
-- makes the function true the vector is that assignment. So its image is exactly the set of the function
pub record IsParametrised (s : Diagrams) (hyp : Edge) (width : ℕ) (edges : List Edge) : Type 0 where
  pub count : length edges ≡ width
  pub live : All (IsLive s) edges
  pub inside : (a : ℕ → Bool) → truth_of s.nodes hyp (image s.nodes edges a) ≡ true
  pub fixed : (a : ℕ → Bool) → truth_of s.nodes hyp a ≡ true → (k : ℕ) → k < width → image s.nodes edges a k ≡ a k
