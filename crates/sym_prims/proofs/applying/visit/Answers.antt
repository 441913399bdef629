use Rattle.sym_prims.proofs.Running.{steps_known}
use Rattle.sym_prims.proofs.applying.visit.Goals as goal

pub returns-in-Some-clause-step : goal.returns-in-Some-clause-step
returns-in-Some-clause-step g c =
    steps_known g.B.Meaning c.args.prim c.args.objs.now c.args.frames.now c.args.task c.args.memo.now c.key_of.result c.in-Some.known c.requires.whole c.requires.frames c.requires.memo c.key_of.ensures c.in-Some.ensures
