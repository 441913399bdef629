use Rattle.std.proofs.Common.{arith}
use Rattle.std.proofs.lemmas.Grind.{common_steps}
use Rattle.event_world.proofs.measure.is_formal.Goals as goal

pub loop-formal-preserved : goal.loop-formal-preserved
loop-formal-preserved c = grind (arith, common_steps)
