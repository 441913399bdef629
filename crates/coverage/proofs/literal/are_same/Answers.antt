use Rattle.coverage.proofs.Found.{told_equal}
use Rattle.coverage.proofs.literal.are_same.Goals as goal

pub returns : goal.returns
returns c = told_equal c.args.first.now c.args.second.now c.same.result c.same.ensures.0 c.same.ensures.1
