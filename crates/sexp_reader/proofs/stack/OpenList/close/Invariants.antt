use Rattle.std.proofs.Common.{◌≡◌, vec_len}
use Rattle.sexp_reader.specs.Stack.{listed, tail_of}
use Rattle.sexp_reader.proofs.stack.OpenList.close.Given as goal

-- the elements that are left, in front of the tree so far, are the whole
abbrev pub invariant-loop-element : goal.invariant-loop-element
invariant-loop-element l = listed l.elements.items l.tree ≡ listed l.fn.self.elements.items (tail_of l.fn.self.end)

abbrev pub decreases-loop-element : goal.decreases-loop-element
decreases-loop-element l = vec_len l.elements
