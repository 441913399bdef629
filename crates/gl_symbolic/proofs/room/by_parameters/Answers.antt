use Rattle.gl_symbolic.proofs.Stopped.{ready_later}
use Rattle.gl_symbolic.proofs.room.by_parameters.Goals as goal

pub by_diagrams-requires-clause-ready : goal.by_diagrams-requires-clause-ready
by_diagrams-requires-clause-ready c = ready_later c.args.world.now c.args.thm.now c.args.machine.now c.decide_parametrised.new.machine c.decide_parametrised.ensures.rests c.requires.ready
