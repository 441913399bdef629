use Rattle.gl_logic.proofs.Walks.{walk_deeper}
use Rattle.gl_logic.proofs.laws.deeper_keeps.Goals as goal

pub returns : goal.returns
returns c = walk_deeper
