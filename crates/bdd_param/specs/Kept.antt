-- The vectors that are kept, one for each edge that a walk is done with.
use Rattle.std.specs.Prelude.{◌≡◌, ℕ, ◌<◌, Bool, cond, List, [], length, get_or, All}
use Rattle.bfr_store.specs.declared.edge.Edge.{Edge}
use Rattle.bdd_store.specs.Nodes.{Diagrams, IsLive, truth_of}
use Rattle.bdd_store.specs.Tests.{DependsPast}
use Rattle.bdd_store.specs.declared.parts.Test.{Test}
use Rattle.bdd_param.specs.Images.{image, IsParametrised}

-- how many edges a vector has; the vectors; for each edge number the place of its vector, or 0
pub record KeptSeen : Type 0 where
  pub width : ℕ
  pub vectors : List (List Edge)
  pub places : List ℕ

-- the vector of the variables
pub record AreVariables (s : Diagrams) (width : ℕ) (edges : List Edge) : Type 0 where
  pub count : length edges ≡ width
  pub live : All (IsLive s) edges
  pub same : (a : ℕ → Bool) (k : ℕ) → k < width → image s.nodes edges a k ≡ a k

-- the vector at this place parametrises the edge, which is live
pub record IsAt (s : Diagrams) (m : KeptSeen) (e : Edge) (place : ℕ) : Type 0 where
  pub live : IsLive s e
  pub within : place < length m.vectors
  pub vector : IsParametrised s e m.width (get_or m.vectors place [])

-- the first vector is that of the variables, and each other place is that of its edge's vector
pub record IsKept (s : Diagrams) (m : KeptSeen) : Type 0 where
  pub some : 0 < length m.vectors
  pub variables : AreVariables s m.width (get_or m.vectors 0 [])
  pub each : (n : ℕ) → n < length m.places → 0 < get_or m.places n 0 → IsAt s m (record { number = n }) (get_or m.places n 0)

-- what a walk leaves: as many places, and each vector where it was
pub record Adds (old new : KeptSeen) : Type 0 where
  pub width : new.width ≡ old.width
  pub places : length new.places ≡ length old.places
  pub more : (p : ℕ) → p < length old.vectors → p < length new.vectors
  pub same : (p : ℕ) → p < length old.vectors → get_or new.vectors p [] ≡ get_or old.vectors p []

-- what a test says of its function, in whatever store
pub record IsTestFor (s : Diagrams) (e : Edge) (t : Test) : Type 0 where
  pub says : (a : ℕ → Bool) → truth_of s.nodes e a ≡ cond (a t.variable) (truth_of s.nodes t.high a) (truth_of s.nodes t.low a)
  pub high_past : DependsPast s t.high t.variable
  pub low_past : DependsPast s t.low t.variable
