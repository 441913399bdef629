use Rattle.std.proofs.Common.{arith}
use Rattle.std.proofs.lemmas.Grind.{common_steps}
use Rattle.event_world.proofs.defun_form.all_legal.Goals as goal

pub loop-formal-preserved : goal.loop-formal-preserved
loop-formal-preserved c = grind (arith, common_steps)
