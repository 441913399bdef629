-- The symbolic objects of shapes.
use Rattle.std.specs.Prelude.{ℕ, Bool, ◌≡◌, ◌≢◌, List, map, get_or}
use Rattle.std.specs.List.{Contains}
use Rattle.bfr_store.specs.declared.edge.Edge.{Edge}
use Rattle.bfr_store.specs.declared.meaning.Meaning.{Ghosts}
use Rattle.gl_logic.specs.Assignments.{value_at}
use Rattle.hons_arena.specs.Held.{HasNoRoomFor}
use Rattle.lisp_eval.specs.Machines.{MachineSeen}
use Rattle.shape_spec.specs.Indices.{indices_of, rank_in}
use Rattle.shape_spec.specs.InputMeant.{object_meant, truth_in}
use Rattle.shape_spec.specs.ShapeSeen.{ShapeSeen}
use Rattle.sym_objects.specs.declared.sob.Sob.{Sob}
use Rattle.sym_objects.specs.Seen.{SobsSeen, IsFull, IsLive, stands_for}
use Rattle.gl_interp.specs.Environments.{vector_at}
use Rattle.gl_interp.specs.declared.constants.PlaceFault.{PlaceFault}
use Rattle.gl_interp.specs.declared.constants.PlaceFault.TheVariants as fault

abbrev pub AreAmong : List ℕ → List ℕ → Type 0
AreAmong xs ys = (i : ℕ) → Contains xs i → Contains ys i

-- which indices are true where the vector's edges are their variables
abbrev pub holds_over : {B : Type 0} → Ghosts B → B → List (ℕ × ShapeSeen) → List Edge → (ℕ → Bool) → ℕ → Bool
holds_over g s b edges a = truth_in (indices_of b) (vector_at g s edges a)

-- the edge of an index, and those of indices
abbrev pub edge_at : List (ℕ × ShapeSeen) → List Edge → ℕ → Edge
edge_at b edges i = get_or edges (rank_in (indices_of b) i) (record { number = 0 })

abbrev pub bits_over : List (ℕ × ShapeSeen) → List Edge → List ℕ → List Edge
bits_over b edges is = map (edge_at b edges) is

-- the node stands, under each assignment, for the shape's object at the vector's assignment
pub record IsObjectOver {B : Type 0} (g : Ghosts B) (old new : SobsSeen B) (b : List (ℕ × ShapeSeen)) (edges : List Edge) (shape : ShapeSeen) (x : Sob) : Type 0 where
  pub live : IsLive new x
  pub means : (a : ℕ → Bool) → stands_for g new x a ≡ object_meant (holds_over g old.store b edges a) shape

-- only variables of these indices were set
abbrev pub SetsOnly : List ℕ → List ℕ → List Bool → List Bool → Type 0
SetsOnly all is old new = (j : ℕ) → ((i : ℕ) → Contains is i → rank_in all i ≢ j) → value_at new j ≡ value_at old j

-- which indices an assignment makes true
abbrev pub holds_at : List (ℕ × ShapeSeen) → List Bool → ℕ → Bool
holds_at b a = truth_in (indices_of b) (value_at a)

-- for want of cells there is no room for the shape's object under the assignment
abbrev pub HasShapeCause : {B : Type 0} → Ghosts B → SobsSeen B → MachineSeen → List (ℕ × ShapeSeen) → ShapeSeen → List Bool → PlaceFault → Type 0
HasShapeCause g new m b shape a fault.Cells = HasNoRoomFor m.arena (object_meant (holds_at b a) shape)
HasShapeCause g new m b shape a fault.Full = IsFull g new
HasShapeCause g new m b shape a fault.Memory = Unit {0}
