use Rattle.hons_arena.proofs.Counting.{each_once_few}
use Rattle.hons_arena.proofs.laws.held_at_most_different.Goals as goal

pub returns : goal.returns
returns c = each_once_few
