use Rattle.std.proofs.Common.{◌≤◌}
use Rattle.lisp_eval.specs.Frameless.{BindsUpTo}
use Rattle.lisp_eval.specs.Outside.{on_locals}
use Rattle.lisp_eval.proofs.integers.bind_integers.Given as goal

abbrev pub invariant-loop-i : goal.invariant-loop-i
invariant-loop-i l = BindsUpTo (on_locals l.locals) l.names l.terms l.from l.fn.left l.left l.fn.next.items l.next.items l.i × (l.from ≤ l.i)
