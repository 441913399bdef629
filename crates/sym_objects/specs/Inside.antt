-- What a table's fields always are.
use Rattle.std.specs.Prelude.{ℕ, Bool, true, false, ◌||◌, eqb, ◌≡◌, ◌≢◌, ◌≤◌, ◌<◌, List, [], ◌∷◌, length}
use Rattle.bfr_store.specs.declared.edge.Edge.{Edge}
use Rattle.sym_objects.specs.declared.sob.Sob.{Sob}
use Rattle.sym_objects.specs.declared.node.Node.{Node}
use Rattle.sym_objects.specs.declared.node.Node.TheVariants as node
use Rattle.sym_objects.specs.Nodes.{values_from, constant_by}
use Rattle.sym_objects.specs.Seen.{bits_in}
use Rattle.sym_objects.specs.Table.{Marked, numbered}

-- a node that may have this number, where these are the bits of the integers before it: its parts have smaller numbers, a
-- symbol is neither T nor NIL, and an integer goes on with an integer of less than 128 bits that is not its first bit alone
abbrev pub IsProper : (Sob → List Edge) → ℕ → Node → Type 0
IsProper bits i (node.Symbol t) = 1 < t.number
IsProper bits i (node.Bit e r) = (r.number < i) × (1 ≤ length (bits r)) × (length (bits r) < 128) × (bits r ≢ e ∷ [])
IsProper bits i (node.Pair a d) = (a.number < i) × (d.number < i)
IsProper bits i (node.Choice e a b) = (a.number < i) × (b.number < i)
IsProper bits i _ = Unit {0}

-- each node may have its number
abbrev pub AreProper : List Node → Type 0
AreProper nodes = (i : ℕ) → i < length nodes → IsProper (bits_in nodes) i (numbered nodes i)

-- the edge is one of the two constant ones
abbrev pub is_one_of : (Bool → Edge) → Edge → Bool
is_one_of constant e = eqb e.number (constant true).number || eqb e.number (constant false).number

-- each node may have its number, and is marked where it is constant
pub record IsSound (constant : Bool → Edge) (table : Marked) : Type 0 where
  pub proper : AreProper table.nodes
  pub marks : table.marks ≡ values_from false (constant_by (is_one_of constant)) [] table.nodes
