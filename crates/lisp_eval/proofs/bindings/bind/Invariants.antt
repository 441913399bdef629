use Rattle.std.proofs.Common.{◌≡◌, take}
use Rattle.lisp_eval.specs.Bindings.{bindings_of}
use Rattle.lisp_eval.proofs.bindings.bind.Given as goal

abbrev pub invariant-loop-i : goal.invariant-loop-i
invariant-loop-i l = l.all.items ≡ take l.i (bindings_of l.names l.values)
