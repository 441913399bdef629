use Rattle.fast_alists.proofs.Values.{acons_gives, get_gives, fork_gives}
use Rattle.fast_alists.proofs.laws.answers_are_values.Goals as goal

pub returns : goal.returns
returns c = record { acons = acons_gives; get = get_gives; fork = fork_gives }
