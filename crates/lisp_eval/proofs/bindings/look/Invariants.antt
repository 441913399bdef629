use Rattle.std.proofs.Common.{◌≡◌, drop}
use Rattle.lisp_eval.specs.Bindings.{id_in}
use Rattle.lisp_eval.proofs.bindings.look.Given as goal

abbrev pub invariant-loop-binding : goal.invariant-loop-binding
invariant-loop-binding l = id_in (drop l.binding-index l.env) l.name.number ≡ id_in l.env l.name.number
