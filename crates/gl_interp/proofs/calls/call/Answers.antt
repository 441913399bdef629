use Rattle.gl_interp.proofs.Machines.{may_release, rests_back}
use Rattle.gl_interp.proofs.calls.call.Goals as goal

pub back-requires : goal.back-requires
back-requires g c = may_release c.args.machine.now c.called-answer.new.machine c.mark-mark.result.count c.mark-mark.ensures.count c.called-answer.ensures.grows.grown

pub returns-clause-rests : goal.returns-clause-rests
returns-clause-rests g c =
    rests_back c.args.machine.now c.called-answer.new.machine c.back.new.self c.mark-mark.result.count c.mark-mark.ensures.count c.called-answer.ensures.grows.grown c.called-answer.ensures.grows.settings
    c.back.ensures.objects c.back.ensures.settings c.back.ensures.memos
