use Rattle.std.proofs.Common.{refl}
use Rattle.event_world.specs.PreludeTexts.{ground_texts}
use Rattle.event_world.proofs.ground_texts.definitions.Goals as goal

pub returns : goal.returns
unfolding ground_texts
returns c = refl
