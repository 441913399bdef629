use Rattle.std.proofs.Common.{arith}
use Rattle.std.proofs.lemmas.Grind.{common_steps}
use Rattle.event_world.proofs.defun_form.are_texts_and_declares.Goals as goal

pub loop-form-preserved : goal.loop-form-preserved
loop-form-preserved c = grind (arith, common_steps)
