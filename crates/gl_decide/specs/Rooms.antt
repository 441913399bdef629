-- What the stores of a decision hold at its end.
use Rattle.std.specs.Prelude.{◌≡◌, ◌≢◌, ℕ, ◌<◌}
use Rattle.bdd_store.specs.Nodes.{Diagrams}
use Rattle.bfr_store.specs.declared.meaning.Meaning.{Ghosts}
use Rattle.sat_core.specs.Decisions.{SatSeen}
use Rattle.shape_spec.specs.Indices.{width_of}
use Rattle.shape_spec.specs.declared.theorem.Mode.TheVariants as mode
use Rattle.sym_objects.specs.Seen.{SobsSeen, IsWhole, IsFull}
use Rattle.gl_symbolic.specs.Books.{HoldsEmpty, IsGivenUp}
use Rattle.gl_symbolic.specs.declared.room.Room.{Room}
use Rattle.gl_symbolic.specs.declared.room.Room.TheVariants as room
use Rattle.gl_decide.specs.Bounds.{Bounds}
use Rattle.shape_spec.specs.TheoremSeen.{TheoremSeen}
use Rattle.gl_decide.specs.declared.verdict.Verdict.{Verdict}
use Rattle.gl_decide.specs.declared.verdict.Verdict.TheVariants.{Proved, Vacuous, Uncovered, Cells, Nodes, Clauses, Memory}

-- no symbolic run was begun: a variable is not covered, the cells don't suffice, or memory was refused
abbrev pub IsUnbegun : Verdict → Type 0
IsUnbegun (Uncovered v) = Unit {0}
IsUnbegun (Cells part env) = Unit {0}
IsUnbegun Memory = Unit {0}
IsUnbegun _ = ⊥

-- after Nodes the table or its store holds as many nodes as its limit allows
abbrev pub IsFullAfter : {B : Type 0} → Ghosts B → SobsSeen B → Verdict → Type 0
IsFullAfter g s (Nodes stall) = IsFull g s
IsFullAfter g s _ = Unit {0}

-- after Clauses the store's decisions have learned so many clauses, and the last one's book is there without the empty one
abbrev pub IsGivenUpAfter : ℕ → SatSeen → Verdict → Type 0
IsGivenUpAfter clauses s (Clauses stall) = IsGivenUp clauses s
IsGivenUpAfter clauses s _ = Unit {0}

-- after Proved and Vacuous the last decision's book is there, and the empty clause is in it
abbrev pub IsShownAfter : SatSeen → Verdict → Type 0
IsShownAfter s Proved = HoldsEmpty s
IsShownAfter s Vacuous = HoldsEmpty s
IsShownAfter s _ = Unit {0}

-- a whole table over a store, each with room for so many nodes
pub record AreStoresFor {B : Type 0} (g : Ghosts B) (nodes : ℕ) (s : SobsSeen B) (v : Verdict) : Type 0 where
  pub whole : IsWhole g s
  pub table : s.limit ≡ nodes
  pub store : g.limit_of s.store ≡ nodes
  pub full : IsFullAfter g s v

-- the stores are those of the theorem's mode, diagrams in each but Sat; so there are none of decision diagrams after Clauses, which is a verdict of
-- mode Sat
abbrev pub LeavesStores : Ghosts Diagrams → Ghosts SatSeen → Bounds → TheoremSeen → Verdict → Room → Type 0
LeavesStores g h bounds thm v room.Empty = IsUnbegun v
LeavesStores g h bounds thm v (room.Bdd s) = (thm.mode ≢ mode.Sat) × AreStoresFor g bounds.nodes s v
LeavesStores g h bounds thm v (room.Sat s) = (thm.mode ≡ mode.Sat) × AreStoresFor h bounds.nodes s v × IsGivenUpAfter bounds.clauses s.store v × (bounds.enum_bits < width_of thm.bindings → IsShownAfter s.store v)
