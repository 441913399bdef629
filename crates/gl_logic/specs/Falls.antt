-- Each part of a tree's node is smaller than what the node stands for.
use Rattle.std.specs.Prelude.{◌<◌, ◌≤◌, ◌+◌, List, [], ◌∷◌, length, max}
use Rattle.std.proofs.Common.{arith}
use Rattle.gl_logic.specs.Object.{Object, Cons}
use Rattle.gl_logic.specs.Lists.{conses, size_of, size-conses}
use Rattle.gl_logic.specs.Node.{object_of, IsProperNode}
use Rattle.gl_logic.specs.declared.tree.Node.{Node}
use Rattle.gl_logic.specs.declared.tree.Node.TheVariants as node
use Rattle.gl_logic.specs.declared.tree.Tree.TheDeep.{deep-Node}

-- at least one element makes the list larger than its tail
pub above_tail : (xs : List Object) (t : Object) → 0 < length xs → size_of t + 1 ≤ size_of (conses xs t)
above_tail [] t h = omega (arith, h)
above_tail (x ∷ xs) t h = let s = size-conses xs (Cons x t) in omega (arith, s.0)

pub falls : (n : Node) → IsProperNode n → max (deep-Node n) 0 ≤ size_of (object_of n)
falls (node.Int z) h = omega arith
falls (node.Character z) h = omega arith
falls (node.Symbol z) h = omega arith
falls (node.Text z) h = omega arith
falls (node.List elements tail) h = let s = size-conses elements.items tail.value in omega (arith, s.0, s.1, above_tail elements.items tail.value h.0)
