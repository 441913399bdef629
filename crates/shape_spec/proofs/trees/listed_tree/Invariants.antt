use Rattle.std.proofs.Common.{◌≡◌, drop}
use Rattle.gl_logic.specs.Lists.{conses}
use Rattle.shape_spec.proofs.trees.listed_tree.Given as goal

abbrev pub invariant-loop-element : goal.invariant-loop-element
invariant-loop-element l = conses (drop l.element-index l.elements) l.all ≡ conses l.elements l.tail
