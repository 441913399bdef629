-- Edges that stand for the indices wherever a hypothesis is true.
use Rattle.std.specs.Prelude.{◌≡◌, ◌<◌, ℕ, Bool, true, List, length, get_or}
use Rattle.bfr_store.specs.declared.edge.Edge.{Edge}
use Rattle.bfr_store.specs.declared.meaning.Meaning.{Ghosts}
use Rattle.sym_objects.specs.Seen.{SobsSeen}

-- under each assignment that makes the hypothesis true the edge has the value of the variable
pub record IsIndex {B : Type 0} (g : Ghosts B) (s : SobsSeen B) (hyp : Edge) (k : ℕ) (e : Edge) : Type 0 where
  pub live : g.live s.store e
  pub same : (a : ℕ → Bool) → g.truth_of s.store hyp a ≡ true → g.truth_of s.store e a ≡ a k

-- each edge is so for the variable of its place
abbrev pub IsNarrowed : {B : Type 0} → Ghosts B → SobsSeen B → Edge → List Edge → Type 0
IsNarrowed g s hyp edges = (k : ℕ) (d : Edge) → k < length edges → IsIndex g s hyp k (get_or edges k d)
