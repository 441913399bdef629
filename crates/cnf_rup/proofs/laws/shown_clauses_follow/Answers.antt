use Rattle.cnf_rup.proofs.Sound.{shown_follows}
use Rattle.cnf_rup.proofs.laws.shown_clauses_follow.Goals as goal

pub returns : goal.returns
returns c = shown_follows
