use Rattle.std.proofs.Common.{◌≡◌, take, length}
use Rattle.std.specs.Io.Iter.{u64_saturate}
use Rattle.gl_logic.specs.Lists.{conses, tail_of}
use Rattle.gl_logic.specs.Parts.{cells_in}
use Rattle.gl_logic.proofs.tree.Tree.+cell_count.Given as goal

abbrev pub invariant-loop-element : goal.invariant-loop-element
invariant-loop-element l = l.count ≡ u64_saturate (length (cells_in (conses (take l.element-index l.element-items) (tail_of l.fn.self))))
