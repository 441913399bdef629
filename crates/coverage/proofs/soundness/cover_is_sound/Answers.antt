use Rattle.coverage.proofs.Covering.{some_input}
use Rattle.coverage.proofs.soundness.cover_is_sound.Goals as goal

pub returns : goal.returns
returns c = some_input
