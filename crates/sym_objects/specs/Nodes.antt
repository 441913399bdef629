-- What nodes stand for, each from what its parts stand for.
use Rattle.std.specs.Prelude.{ℕ, Bool, true, false, cond, ◌&&◌, ◌≡◌, ◌<◌, List, [], ◌∷◌, ◌++◌, get_or, ℤ, ◌+ℤ◌}
use Rattle.bfr_store.specs.declared.edge.Edge.{Edge}
use Rattle.gl_logic.specs.Object.{Object, Int, Character, Symbol, Text, Cons, boolean_object}
use Rattle.gl_logic.specs.PrimValue.{integer_in}
use Rattle.gl_logic.specs.TwosComplement.{digit, integer_of}
use Rattle.sym_objects.specs.declared.sob.Sob.{Sob}
use Rattle.sym_objects.specs.declared.sob.SobNode.{SobNode}
use Rattle.sym_objects.specs.declared.sob.SobNode.TheVariants as kind
use Rattle.sym_objects.specs.declared.node.Node.{Node}
use Rattle.sym_objects.specs.declared.node.Node.TheVariants as node

-- what the nodes of a list come to, one behind another: each by what a node says from what the nodes before it come to;
-- `none` stands for a part that is not there
abbrev pub values_from : {A : Type 0} → A → ((Sob → A) → Node → A) → List A → List Node → List A
values_from none says before [] = before
values_from none says before (n ∷ ns) = values_from none says (before ++ says (λ x. get_or before x.number none) n ∷ []) ns

-- the node of this number in the list
abbrev pub node_at : List Node → Sob → Node
node_at nodes x = get_or nodes x.number (node.Character 0)

-- the object that a node stands for, from the truths of the edges and the objects of its parts
abbrev pub object_by : (Edge → Bool) → (Sob → Object) → Node → Object
object_by truth of (node.Character c) = Character c
object_by truth of (node.Symbol t) = Symbol t.number
object_by truth of (node.Text t) = Text t.number
object_by truth of (node.Boolean e) = boolean_object (truth e)
object_by truth of (node.Sign e) = Int (integer_of (truth e ∷ []))
object_by truth of (node.Bit e r) = Int (digit (truth e) +ℤ (integer_in (of r) +ℤ integer_in (of r)))
object_by truth of (node.Pair a d) = Cons (of a) (of d)
object_by truth of (node.Choice e a b) = cond (truth e) (of a) (of b)

-- whether a node is constant, from which edges and which of its parts are
abbrev pub constant_by : (Edge → Bool) → (Sob → Bool) → Node → Bool
constant_by edge of (node.Boolean e) = edge e
constant_by edge of (node.Sign e) = edge e
constant_by edge of (node.Bit e r) = edge e && of r
constant_by edge of (node.Pair a d) = of a && of d
constant_by edge of (node.Choice e a b) = false
constant_by edge of _ = true

-- the bits of a node's integer, least significant first; none where it is no integer
abbrev pub bits_by : (Sob → List Edge) → Node → List Edge
bits_by of (node.Sign e) = e ∷ []
bits_by of (node.Bit e r) = e ∷ of r
bits_by of _ = []

-- what a caller sees of a node
abbrev pub kind_of : Node → SobNode
kind_of (node.Character c) = kind.Character c
kind_of (node.Symbol t) = kind.Symbol t
kind_of (node.Text t) = kind.Text t
kind_of (node.Boolean e) = kind.Boolean e
kind_of (node.Sign e) = kind.Integer
kind_of (node.Bit e r) = kind.Integer
kind_of (node.Pair a d) = kind.Pair a d
kind_of (node.Choice e a b) = kind.Choice e a b

-- each edge of the node is live
abbrev pub EdgesLive : (Edge → Type 0) → Node → Type 0
EdgesLive live (node.Boolean e) = live e
EdgesLive live (node.Sign e) = live e
EdgesLive live (node.Bit e r) = live e
EdgesLive live (node.Choice e a b) = live e
EdgesLive live _ = Unit {0}

-- ---- what a caller sees
-- x is the object of what is seen, from the truths of the edges and the objects of the parts
abbrev pub IsObjectOf : (Edge → Bool) → (Sob → Object) → SobNode → Object → Type 0
IsObjectOf truth of (kind.Character c) x = x ≡ Character c
IsObjectOf truth of (kind.Symbol t) x = x ≡ Symbol t.number
IsObjectOf truth of (kind.Text t) x = x ≡ Text t.number
IsObjectOf truth of (kind.Boolean e) x = x ≡ boolean_object (truth e)
IsObjectOf truth of kind.Integer x = (i : ℤ) × (x ≡ Int i)
IsObjectOf truth of (kind.Pair a d) x = x ≡ Cons (of a) (of d)
IsObjectOf truth of (kind.Choice e a b) x = x ≡ cond (truth e) (of a) (of b)

-- each edge that is seen is live
abbrev pub SeenEdgesLive : (Edge → Type 0) → SobNode → Type 0
SeenEdgesLive live (kind.Boolean e) = live e
SeenEdgesLive live (kind.Choice e a b) = live e
SeenEdgesLive live _ = Unit {0}

-- each part that is seen has a number below this one
abbrev pub PartsBelow : ℕ → SobNode → Type 0
PartsBelow n (kind.Pair a d) = (a.number < n) × (d.number < n)
PartsBelow n (kind.Choice e a b) = (a.number < n) × (b.number < n)
PartsBelow n _ = Unit {0}

-- a symbol that is seen as one is neither T nor NIL
abbrev pub IsNoBoolean : SobNode → Type 0
IsNoBoolean (kind.Symbol t) = 1 < t.number
IsNoBoolean _ = Unit {0}
