use Rattle.std.proofs.Common.{◌≡◌, ◌+◌, ◌*◌, ◌<◌, ◌++◌, take, length}
use Rattle.gl_logic.specs.Object.{Object}
use Rattle.gl_logic.specs.Lists.{size_of, conses}
use Rattle.sexp_print.specs.Printed.{rest_printed, inside_printed, BeginsWith}
use denote.Param.Weighed.{most}
use Rattle.sexp_print.proofs.lists.+print.Given as goal

abbrev pub decreases-append : goal.decreases-append
decreases-append l = 3 * size_of l.tree.now + 2

abbrev pub decreases-append_list : goal.decreases-append_list
decreases-append_list l = 3 * size_of l.list.now + 1

abbrev pub decreases-append_elements : goal.decreases-append_elements
decreases-append_elements l = 3 * most (λ y. size_of y + 1) l.elements.now

-- what stands and what is still to come make the whole
abbrev pub invariant-append_elements-loop-left : goal.invariant-append_elements-loop-left
invariant-append_elements-loop-left l = record {
  within : l.left < length l.elements;
  begins : BeginsWith l.fn.out.items l.out.items;
  comes : (tail : Object) → l.out.items ++ rest_printed l.texts (conses (take l.left l.elements) tail) ≡ l.fn.out.items ++ inside_printed l.texts (conses l.elements tail);
}

abbrev pub decreases-append_elements-loop-left : goal.decreases-append_elements-loop-left
decreases-append_elements-loop-left l = l.left
