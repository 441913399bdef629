use Rattle.fast_alists.proofs.Agreeing.{none_agree}
use Rattle.lisp_eval.proofs.Machines.{none_live}
use Rattle.lisp_eval.proofs.machine.Machine.back.Goals as goal

pub invariant_of-self : goal.invariant_of-self
invariant_of-self c = (none_agree c.release.new.self.objects c.forget.new.lists c.forget.ensures.lists, none_live c.release.new.self.objects c.forget.new.calls c.forget.ensures.calls)
