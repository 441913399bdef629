-- What the stores of a decision hold at its end.
use Rattle.std.specs.Prelude.{◌≡◌, ◌≢◌, ℕ, length}
use Rattle.bdd_store.specs.Nodes.{Diagrams}
use Rattle.bfr_store.specs.declared.meaning.Meaning.{Ghosts}
use Rattle.sat_core.specs.Decisions.{SatSeen}
use Rattle.shape_spec.specs.Indices.{width_of}
use Rattle.shape_spec.specs.declared.theorem.Part.TheVariants as part
use Rattle.shape_spec.specs.declared.theorem.Mode.{Mode}
use Rattle.shape_spec.specs.declared.theorem.Mode.TheVariants as mode
use Rattle.shape_spec.specs.declared.theorem.Thm.{Thm}
use Rattle.sym_objects.specs.Seen.{SobsSeen, IsWhole}
use Rattle.gl_symbolic.specs.Decisions.{HasRunOut, IsShown}
use Rattle.gl_symbolic.specs.declared.decision.Decision.{Decision}
use Rattle.gl_symbolic.specs.declared.decision.Decision.TheVariants as decision
use Rattle.gl_symbolic.specs.declared.room.Room.{Room}
use Rattle.gl_symbolic.specs.declared.room.Room.TheVariants as room
use Rattle.gl_symbolic.specs.Books.{HoldsEmpty, IsGivenUp}

-- no run was begun: the cells don't suffice, or memory was refused
abbrev pub IsUnbegun : Decision → Type 0
IsUnbegun (decision.Cells part a) = Unit {0}
IsUnbegun decision.Memory = Unit {0}
IsUnbegun _ = ⊥

-- the cells don't suffice for the world's constants: an assignment of the theorem, whose input is one of the hypothesis
abbrev pub IsUnplaced : Thm → Decision → Type 0
IsUnplaced thm (decision.Cells part.Hyp a) = length a ≡ width_of thm.bindings
IsUnplaced thm decision.Memory = Unit {0}
IsUnplaced thm _ = ⊥

-- where the store gave up, its decisions have learned so many clauses, and the last one's book is there without the empty one
abbrev pub GivesUpWell : ℕ → SatSeen → Decision → Type 0
GivesUpWell clauses s decision.Spent = IsGivenUp clauses s
GivesUpWell clauses s _ = Unit {0}

-- a whole table over a store, each with room for so many nodes, and what has run out
pub record IsRoomFor {B : Type 0} (g : Ghosts B) (nodes : ℕ) (s : SobsSeen B) (d : Decision) : Type 0 where
  pub whole : IsWhole g s
  pub table : s.limit ≡ nodes
  pub store : g.limit_of s.store ≡ nodes
  pub run_out : HasRunOut g s d

-- the stores are those of the mode: diagrams in each but Sat. In mode Sat an answer that no assignment makes a function true
-- is shown by the book of the last decision
abbrev pub LeavesRoom : Ghosts Diagrams → Ghosts SatSeen → ℕ → ℕ → Mode → Decision → Room → Type 0
LeavesRoom g h nodes clauses m d room.Empty = IsUnbegun d
LeavesRoom g h nodes clauses m d (room.Bdd s) = (m ≢ mode.Sat) × IsRoomFor g nodes s d
LeavesRoom g h nodes clauses m d (room.Sat s) = (m ≡ mode.Sat) × IsRoomFor h nodes s d × IsShown (HoldsEmpty s.store) d × GivesUpWell clauses s.store d
