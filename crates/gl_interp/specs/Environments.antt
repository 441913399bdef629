-- Environments of symbolic objects, and what they stand for.
use Rattle.std.specs.Prelude.{ℕ, Bool, List, map}
use Rattle.std.specs.List.{All}
use Rattle.bfr_store.specs.declared.edge.Edge.{Edge}
use Rattle.bfr_store.specs.declared.meaning.Meaning.{Ghosts}
use Rattle.gl_logic.specs.Assignments.{value_at}
use Rattle.gl_logic.specs.Object.{Object}
use Rattle.sym_objects.specs.declared.sob.Sob.{Sob}
use Rattle.sym_objects.specs.Seen.{SobsSeen, IsLive, stands_for}

-- each pair's object is live
abbrev pub AreLive : {B : Type 0} → SobsSeen B → List (ℕ × Sob) → Type 0
AreLive s env = All (λ p. IsLive s p.1) env

-- the pairs with what their objects stand for
abbrev pub objects_of : (Sob → Object) → List (ℕ × Sob) → List (ℕ × Object)
objects_of of ps = map (λ p. (p.0, of p.1)) ps

-- the environment under an assignment
abbrev pub env_under : {B : Type 0} → Ghosts B → SobsSeen B → List (ℕ × Sob) → (ℕ → Bool) → List (ℕ × Object)
env_under g s env a = objects_of (λ x. stands_for g s x a) env

-- the assignment that a vector of edges makes of one: variable k has the truth of edge k
abbrev pub vector_at : {B : Type 0} → Ghosts B → B → List Edge → (ℕ → Bool) → ℕ → Bool
vector_at g s edges a = value_at (map (λ e. g.truth_of s e a) edges)
