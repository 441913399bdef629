-- What is seen of the arguments' nodes, as far as primitives ask.
use Rattle.std.specs.Prelude.{ℕ, Bool, true, false, eqb, ◌≡◌}
use Rattle.bfr_store.specs.declared.edge.Edge.{Edge}
use Rattle.gl_logic.specs.declared.prim.Primitive.{Primitive}
use Rattle.gl_logic.specs.declared.prim.Primitive.TheVariants as prim
use Rattle.sym_objects.specs.declared.sob.Sob.{Sob}
use Rattle.sym_objects.specs.declared.sob.SobNode.{SobNode}
use Rattle.sym_objects.specs.declared.sob.SobNode.TheVariants as kind
use Rattle.sym_objects.specs.Nodes.{kind_of, node_at}
use Rattle.sym_objects.specs.Seen.{SobsSeen}
use Rattle.sym_prims.specs.declared.nodes.Pairing.{Pairing}
use Rattle.sym_prims.specs.declared.nodes.Pairing.TheVariants as pairing

-- no choice of two objects
abbrev pub IsSimple : SobNode → Type 0
IsSimple (kind.Choice e a b) = ⊥
IsSimple _ = Unit {0}

-- the node of a table is no choice
abbrev pub IsSimpleIn : {B : Type 0} → SobsSeen B → Sob → Type 0
IsSimpleIn s x = IsSimple (kind_of (node_at s.nodes x))

-- the primitives that take two arguments
abbrev pub takes_two : Primitive → Bool
takes_two prim.Consp = false
takes_two prim.Integerp = false
takes_two prim.Symbolp = false
takes_two prim.Stringp = false
takes_two prim.Characterp = false
takes_two prim.Car = false
takes_two prim.Cdr = false
takes_two prim.Not = false
takes_two prim.CharCode = false
takes_two prim.CodeChar = false
takes_two prim.UnaryMinus = false
takes_two prim.Lognot = false
takes_two prim.IntegerLength = false
takes_two _ = true

-- the second argument is no choice, where there is one
abbrev pub IsSecondSimple : Primitive → SobNode → Type 0
IsSecondSimple p n = takes_two p ≡ true → IsSimple n

-- not the equality of two conses, which is that of their parts
abbrev pub IsOfParts : Primitive → SobNode → SobNode → Type 0
IsOfParts prim.Equal (kind.Pair a d) (kind.Pair b e) = Unit {0}
IsOfParts _ _ _ = ⊥

-- ---- kinds
-- whether a node that is no choice is of the kind that a primitive tests
abbrev pub is_of_kind : Primitive → SobNode → Bool
is_of_kind prim.Consp (kind.Pair a d) = true
is_of_kind prim.Integerp kind.Integer = true
is_of_kind prim.Symbolp (kind.Symbol t) = true
is_of_kind prim.Symbolp (kind.Boolean e) = true
is_of_kind prim.Stringp (kind.Text t) = true
is_of_kind prim.Characterp (kind.Character c) = true
is_of_kind _ _ = false

-- the tests of kinds
abbrev pub is_kind_test : Primitive → Bool
is_kind_test prim.Consp = true
is_kind_test prim.Integerp = true
is_kind_test prim.Symbolp = true
is_kind_test prim.Stringp = true
is_kind_test prim.Characterp = true
is_kind_test _ = false

abbrev pub is_integer_node : SobNode → Bool
is_integer_node kind.Integer = true
is_integer_node _ = false

-- ---- two nodes side by side
-- what decides whether two nodes that are no choices, and not both conses, stand for one object
abbrev pub pairing_of : SobNode → SobNode → Pairing
pairing_of kind.Integer kind.Integer = pairing.Integers
pairing_of (kind.Boolean e) (kind.Boolean f) = pairing.Booleans e f
pairing_of (kind.Character c) (kind.Character d) = pairing.Always (eqb c d)
pairing_of (kind.Symbol s) (kind.Symbol t) = pairing.Always (eqb s.number t.number)
pairing_of (kind.Text s) (kind.Text t) = pairing.Always (eqb s.number t.number)
pairing_of _ _ = pairing.Always false

-- no cons
abbrev pub IsNoCons : SobNode → Type 0
IsNoCons (kind.Pair a d) = ⊥
IsNoCons _ = Unit {0}

-- no Boolean
abbrev pub IsNoTruth : SobNode → Type 0
IsNoTruth (kind.Boolean e) = ⊥
IsNoTruth _ = Unit {0}

-- the code of a character's node, and 0 of any other
abbrev pub code_seen : SobNode → ℕ
code_seen (kind.Character c) = c
code_seen _ = 0
