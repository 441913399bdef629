use Rattle.gl_logic.specs.Walk.{opened}
use Rattle.gl_logic.proofs.FreeVariables.{agree}
use Rattle.gl_logic.proofs.laws.free_variables_decide.Goals as goal

pub returns : goal.returns
returns c definitions n first second t h = agree (opened definitions n) t first second h
