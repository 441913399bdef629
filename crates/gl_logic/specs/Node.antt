-- What a tree's node stands for.
use Rattle.std.specs.Prelude.{◌<◌, length}
use Rattle.gl_logic.specs.Object.{Object, Int, Character, Symbol, Text}
use Rattle.gl_logic.specs.Lists.{conses, IsAtom}
use Rattle.gl_logic.specs.declared.tree.Node.{Node}
use Rattle.gl_logic.specs.declared.tree.Node.TheVariants as node

abbrev pub object_of : Node → Object
object_of (node.Int z) = Int z
object_of (node.Character n) = Character n
object_of (node.Symbol t) = Symbol t.number
object_of (node.Text t) = Text t.number
object_of (node.List elements tail) = conses elements.items tail.value

abbrev pub IsProperNode : Node → Type 0
IsProperNode (node.List elements tail) = (0 < length elements.items) × IsAtom tail.value
IsProperNode _ = Unit {0}
