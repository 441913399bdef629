use Rattle.fast_alists.proofs.Agreeing.{none_agree}
use Rattle.lisp_eval.proofs.Machines.{none_live}
use Rattle.lisp_eval.proofs.machine.Machine.arena_mut.Goals as goal

pub invariant_of-self-lent : goal.invariant_of-self-lent
invariant_of-self-lent c w = (none_agree _ c.forget.new.lists c.forget.ensures.lists, none_live _ c.forget.new.calls c.forget.ensures.calls)
