use Rattle.std.proofs.Common.{◌+◌, ◌*◌}
use Rattle.lisp_eval.proofs.integers.+integer_at_once.Given as goal

abbrev pub decreases-integer_at_once : goal.decreases-integer_at_once
decreases-integer_at_once l = 3 * l.levels + 2

abbrev pub decreases-operation : goal.decreases-operation
decreases-operation l = 3 * l.levels + 1

abbrev pub decreases-unary : goal.decreases-unary
decreases-unary l = 3 * l.levels

abbrev pub decreases-binary : goal.decreases-binary
decreases-binary l = 3 * l.levels
