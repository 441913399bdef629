use Rattle.std.proofs.Common.{◌≡◌, drop}
use Rattle.lisp_eval.specs.Outside.{local_in}
use Rattle.lisp_eval.proofs.attempt.local_value.Given as goal

abbrev pub invariant-loop-local : goal.invariant-loop-local
invariant-loop-local l = local_in (drop l.local-index l.locals) l.name.number ≡ local_in l.locals l.name.number
