use Rattle.std.proofs.Common.{◌≡◌, ◌+◌, ◌*◌, take}
use Rattle.gl_logic.specs.Lists.{size_of}
use denote.Param.Weighed.{most}
use Rattle.gl_logic.proofs.tree.+same.Given as goal

abbrev pub decreases-Tree::same : goal.decreases-Tree::same
decreases-Tree::same l = 2 * size_of l.self.now + 1

abbrev pub decreases-all_same : goal.decreases-all_same
decreases-all_same l = 2 * most (λ y. size_of y + 1) l.xs.now

abbrev pub invariant-all_same-loop-i : goal.invariant-all_same-loop-i
invariant-all_same-loop-i l = take l.i l.xs ≡ take l.i l.ys
