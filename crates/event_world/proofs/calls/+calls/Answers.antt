use Rattle.std.proofs.Common.{arith}
use Rattle.std.proofs.lemmas.Grind.{common_steps}
use Rattle.event_world.proofs.calls.+calls.Goals as goal

pub have_call-loop-term-preserved : goal.have_call-loop-term-preserved
have_call-loop-term-preserved t c = grind (arith, common_steps)
