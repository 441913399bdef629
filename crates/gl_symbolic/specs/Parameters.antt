-- A theorem's input at a vector that parametrises its hypothesis.
use Rattle.std.specs.Prelude.{◌≡◌, ◌<◌, ℕ, Bool, true, List, length}
use Rattle.std.specs.List.{All}
use Rattle.bfr_store.specs.declared.edge.Edge.{Edge}
use Rattle.bfr_store.specs.declared.meaning.Meaning.{Ghosts}
use Rattle.shape_spec.specs.declared.theorem.Thm.{Thm}
use Rattle.sym_objects.specs.declared.sob.Sob.{Sob}
use Rattle.sym_objects.specs.Seen.{SobsSeen}
use Rattle.gl_interp.specs.Environments.{AreLive, env_under, vector_at}
use Rattle.gl_interp.specs.declared.fault.GlFault.{GlFault}
use Rattle.gl_interp.specs.declared.fault.GlFault.TheVariants as fault
use Rattle.gl_logic.specs.Assignments.{value_at}
use Rattle.gl_logic.specs.WorldSeen.{WorldSeen}
use Rattle.shape_spec.specs.declared.theorem.Part.TheVariants.{Concl}
use Rattle.gl_symbolic.specs.Steps.{IsTold}
use Rattle.gl_symbolic.specs.Theorems.{input_under, term_at}

-- at every assignment the vector makes the function true, and at one that makes it true it is that assignment
pub record Parametrises {B : Type 0} (g : Ghosts B) (s : SobsSeen B) (hyp : Edge) (width : ℕ) (edges : List Edge) : Type 0 where
  pub count : length edges ≡ width
  pub live : All (g.live s.store) edges
  pub inside : (a : ℕ → Bool) → g.truth_of s.store hyp (vector_at g s.store edges a) ≡ true
  pub fixed : (a : ℕ → Bool) → g.truth_of s.store hyp a ≡ true → (k : ℕ) → k < width → vector_at g s.store edges a k ≡ a k

-- the environment stands, under each assignment, for the input at the assignment that the vector makes of it
pub record StandsAt {B : Type 0} (g : Ghosts B) (s : SobsSeen B) (thm : Thm) (edges : List Edge) (env : List (ℕ × Sob)) : Type 0 where
  pub live : AreLive s env
  pub input : (a : ℕ → Bool) → env_under g s env a ≡ input_under thm (vector_at g s.store edges a)

-- a fault's assignment has so many variables
abbrev pub HasWidth : ℕ → GlFault → Type 0
HasWidth n (fault.Clock a) = length a ≡ n
HasWidth n (fault.Wide a) = length a ≡ n
HasWidth n (fault.Steps a) = length a ≡ n
HasWidth n (fault.Cells a) = length a ≡ n
HasWidth n _ = Unit {0}

-- a fault has no assignment
abbrev pub IsStill : GlFault → Type 0
IsStill fault.Full = Unit {0}
IsStill fault.Spent = Unit {0}
IsStill fault.Memory = Unit {0}
IsStill _ = ⊥

-- the fault with the assignment that a vector makes of its own
abbrev pub moved_by : ((ℕ → Bool) → List Bool) → GlFault → GlFault
moved_by vector (fault.Clock a) = fault.Clock (vector (value_at a))
moved_by vector (fault.Wide a) = fault.Wide (vector (value_at a))
moved_by vector (fault.Steps a) = fault.Steps (vector (value_at a))
moved_by vector (fault.Cells a) = fault.Cells (vector (value_at a))
moved_by vector f = f

-- the edge tells, under each assignment, whether the conclusion is other than NIL on the input at the vector's
pub record TellsConclusion {B : Type 0} (g : Ghosts B) (s : SobsSeen B) (w : WorldSeen) (thm : Thm) (edges : List Edge) (e : Edge) : Type 0 where
  pub live : g.live s.store e
  pub told : (a : ℕ → Bool) → IsTold w (term_at thm Concl) (input_under thm (vector_at g s.store edges a)) (g.truth_of s.store e a)
