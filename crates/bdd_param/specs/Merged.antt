-- A vector out of two.
use Rattle.std.specs.Prelude.{◌≡◌, ℕ, ◌<◌, Bool, cond, List, length, get_or}
use Rattle.bfr_store.specs.declared.edge.Edge.{Edge}
use Rattle.bdd_store.specs.Nodes.{Diagrams, IsLive, truth_of}

-- the edge is live, and is the high one where the test is true, and the low one elsewhere
pub record IsChosen (old new : Diagrams) (test high low e : Edge) : Type 0 where
  pub live : IsLive new e
  pub says : (a : ℕ → Bool) → truth_of new.nodes e a ≡ cond (truth_of old.nodes test a) (truth_of old.nodes high a) (truth_of old.nodes low a)

-- so many edges are chosen so, each at its place
pub record IsMerged (old new : Diagrams) (test : Edge) (high low edges : List Edge) (count : ℕ) : Type 0 where
  pub so_many : length edges ≡ count
  pub each : (k : ℕ) (d : Edge) → k < count → IsChosen old new test (get_or high k d) (get_or low k d) (get_or edges k d)
