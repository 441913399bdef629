use Rattle.hons_arena.proofs.Placing.{adds_more}
use Rattle.hons_arena.proofs.laws.adding_goes_on.Goals as goal

pub returns : goal.returns
returns c = adds_more
