use Rattle.gl_logic.specs.ObjectEq.{object_eq}
use Rattle.gl_logic.specs.CellCounts.{cells}
use Rattle.gl_logic.proofs.OtherCounts.{different_length}
use Rattle.gl_logic.proofs.laws.distinct_at_most_made.Goals as goal

pub returns : goal.returns
returns c w n env t = different_length object_eq (cells w n env t)
