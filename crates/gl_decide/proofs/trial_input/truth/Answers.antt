use Rattle.gl_decide.proofs.Truths.{rests}
use Rattle.gl_decide.proofs.trial_input.truth.Goals as goal

pub returns-in-Ok-clause-rests : goal.returns-in-Ok-clause-rests
returns-in-Ok-clause-rests c =
    rests c.args.world.now c.args.machine.now c.eval.new.self c.back.new.self c.mark-mark.result.count c.mark-mark.ensures.count c.eval.ensures.grown c.back.ensures.objects c.eval.ensures.settings c.back.ensures.settings
    (c.back.ensures.fits c.args.world.now c.eval.ensures.fits)

pub returns-in-Err-clause-rests : goal.returns-in-Err-clause-rests
returns-in-Err-clause-rests c =
    rests c.args.world.now c.args.machine.now c.eval.new.self c.back-in-Err.new.self c.mark-mark.result.count c.mark-mark.ensures.count c.eval.ensures.grown c.back-in-Err.ensures.objects c.eval.ensures.settings c.back-in-Err.ensures.settings
    (c.back-in-Err.ensures.fits c.args.world.now c.eval.ensures.fits)
