use Rattle.std.proofs.Common.{◌+◌, ◌-◌, ◌*◌}
use Rattle.lisp_eval.proofs.direct.+at_once.Given as goal

abbrev pub decreases-at_once : goal.decreases-at_once
decreases-at_once l = 4 * l.levels + 1

abbrev pub decreases-branch : goal.decreases-branch
decreases-branch l = 4 * l.levels

abbrev pub decreases-operation : goal.decreases-operation
decreases-operation l = 4 * l.levels

abbrev pub decreases-opened : goal.decreases-opened
decreases-opened l = 4 * l.levels

abbrev pub decreases-arguments : goal.decreases-arguments
decreases-arguments l = 4 * l.levels + 2

abbrev pub decreases-body : goal.decreases-body
decreases-body l = 4 * l.levels + 2

abbrev pub decreases-unary : goal.decreases-unary
decreases-unary l = 4 * l.levels - 1

abbrev pub decreases-binary : goal.decreases-binary
decreases-binary l = 4 * l.levels - 1

abbrev pub decreases-zero : goal.decreases-zero
decreases-zero l = 4 * l.levels + 2
