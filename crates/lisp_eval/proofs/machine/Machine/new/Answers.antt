use Rattle.lisp_eval.proofs.Machines.{none_live}
use Rattle.lisp_eval.proofs.machine.Machine.new.Goals as goal

pub invariant_of-result : goal.invariant_of-result
invariant_of-result c = (c.in_ok-new-2.ensures.agree c.in_ok-new.field-0.objects, none_live c.in_ok-new.field-0.objects c.in_ok-new-3.field-0 c.in_ok-new-3.ensures)
