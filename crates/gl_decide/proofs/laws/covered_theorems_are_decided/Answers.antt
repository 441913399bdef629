use Rattle.gl_decide.proofs.Completeness.{decided}
use Rattle.gl_decide.proofs.laws.covered_theorems_are_decided.Goals as goal

pub returns : goal.returns
returns c = decided
