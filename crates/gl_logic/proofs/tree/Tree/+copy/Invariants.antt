use Rattle.std.proofs.Common.{◌≡◌, take}
use Rattle.gl_logic.specs.Lists.{conses, tail_of}
use Rattle.gl_logic.proofs.tree.Tree.+copy.Given as goal

abbrev pub invariant-loop-element : goal.invariant-loop-element
invariant-loop-element l = l.copied ≡ conses (take l.element-index l.element-items) (tail_of l.fn.self)
