use Rattle.gl_logic.proofs.Equality.{equal_decides}
use Rattle.gl_logic.proofs.object_laws.equality_is_decided.Goals as goal

pub returns : goal.returns
returns c = equal_decides
