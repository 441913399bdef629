use Rattle.std.proofs.Common.{◌<◌}
use Rattle.lisp_eval.proofs.opening.+plain_within.Given as goal

abbrev pub decreases-plain_within : goal.decreases-plain_within
decreases-plain_within l = l.subterms

abbrev pub invariant-loop-part : goal.invariant-loop-part
invariant-loop-part l = l.left < l.subterms
