use Rattle.lrat_tool.proofs.Ids.{last_is}
use Rattle.lrat_tool.proofs.log.last_of.Goals as goal

pub returns-in-len1-up : goal.returns-in-len1-up
returns-in-len1-up c = last_is c.args.first c.args.ids.now c.in-len1-up.len_at_least
