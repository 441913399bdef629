use Rattle.sym_prims.proofs.Stepping.{steps_give}
use Rattle.sym_prims.proofs.applying.work_out.Goals as goal

pub returns-clause-step : goal.returns-clause-step
returns-clause-step g c =
    let made = c.in_ok-simple.ensures.applies in
    steps_give g.B.Meaning c.args.prim c.args.objs.now c.simple.new.objs made.leaves c.args.frames.now c.args.task c.in_ok-simple.field-0 c.requires.frames made.live made.value
