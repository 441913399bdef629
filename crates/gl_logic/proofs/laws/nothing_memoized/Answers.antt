use Rattle.gl_logic.proofs.OtherCounts.{memoized_none}
use Rattle.gl_logic.proofs.laws.nothing_memoized.Goals as goal

pub returns : goal.returns
returns c = memoized_none
