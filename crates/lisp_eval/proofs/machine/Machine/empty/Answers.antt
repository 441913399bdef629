use Rattle.lisp_eval.proofs.Machines.{none_live}
use Rattle.lisp_eval.proofs.machine.Machine.empty.Goals as goal

pub invariant_of-self : goal.invariant_of-self
invariant_of-self c = (c.clear-2.ensures.agree c.release.new.self.objects, none_live c.release.new.self.objects c.clear.new.self c.clear.ensures)
