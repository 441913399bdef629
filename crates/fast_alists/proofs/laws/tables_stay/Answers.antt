use Rattle.fast_alists.proofs.Agreeing.{tables_stay}
use Rattle.fast_alists.proofs.laws.tables_stay.Goals as goal

pub returns : goal.returns
returns c tables x old new adds agree = tables_stay x old new adds tables agree
