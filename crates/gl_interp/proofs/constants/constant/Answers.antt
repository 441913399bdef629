use Rattle.gl_interp.proofs.Machines.{grown_by, rests_back}
use Rattle.gl_interp.proofs.constants.constant.Goals as goal

pub returns-in-Ok-made-clause-rests : goal.returns-in-Ok-made-clause-rests
returns-in-Ok-made-clause-rests g c =
    rests_back c.args.machine.now c.input.new.self c.back.new.self c.mark-mark.result.count c.mark-mark.ensures.count (grown_by c.args.tree.now c.args.machine.now.arena.objects c.input.new.self.arena.objects c.input.ensures.objects)
    c.input.ensures.settings c.back.ensures.objects c.back.ensures.settings c.back.ensures.memos

pub returns-in-Err-Full-clause-rests : goal.returns-in-Err-Full-clause-rests
returns-in-Err-Full-clause-rests g c =
    rests_back c.args.machine.now c.input.new.self c.back.new.self c.mark-mark.result.count c.mark-mark.ensures.count (grown_by c.args.tree.now c.args.machine.now.arena.objects c.input.new.self.arena.objects c.input.ensures.objects)
    c.input.ensures.settings c.back.ensures.objects c.back.ensures.settings c.back.ensures.memos

pub returns-in-Err-Memory-clause-rests : goal.returns-in-Err-Memory-clause-rests
returns-in-Err-Memory-clause-rests g c =
    rests_back c.args.machine.now c.input.new.self c.back.new.self c.mark-mark.result.count c.mark-mark.ensures.count (grown_by c.args.tree.now c.args.machine.now.arena.objects c.input.new.self.arena.objects c.input.ensures.objects)
    c.input.ensures.settings c.back.ensures.objects c.back.ensures.settings c.back.ensures.memos

pub returns-in-Err-clause-rests : goal.returns-in-Err-clause-rests
returns-in-Err-clause-rests g c =
    rests_back c.args.machine.now c.input.new.self c.back-in-Err.new.self c.mark-mark.result.count c.mark-mark.ensures.count (grown_by c.args.tree.now c.args.machine.now.arena.objects c.input.new.self.arena.objects c.input.ensures.objects)
    c.input.ensures.settings c.back-in-Err.ensures.objects c.back-in-Err.ensures.settings c.back-in-Err.ensures.memos
