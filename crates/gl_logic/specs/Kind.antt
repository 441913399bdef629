-- The kind of an object.
use Rattle.gl_logic.specs.Object.{Object, Int, Character, Symbol, Text, Cons}
use Rattle.gl_logic.specs.declared.tree.TreeKind.{TreeKind}
use Rattle.gl_logic.specs.declared.tree.TreeKind.TheVariants as kind

abbrev pub kind_of : Object → TreeKind
kind_of (Int z) = kind.Int z
kind_of (Character n) = kind.Character n
kind_of (Symbol n) = kind.Symbol (record { number = n })
kind_of (Text n) = kind.Text (record { number = n })
kind_of (Cons a d) = kind.List
