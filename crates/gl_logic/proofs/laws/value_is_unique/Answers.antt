use Rattle.gl_logic.proofs.Walks.{value_unique}
use Rattle.gl_logic.proofs.laws.value_is_unique.Goals as goal

pub returns : goal.returns
returns c = value_unique
