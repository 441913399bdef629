use Rattle.std.proofs.Common.{◌∙◌, ◌+◌, ap, sym, pos}
use Rattle.std.proofs.lemmas.Result.{IfOk-weaker}
use Rattle.lrat_tool.proofs.Ranked.{rank_is}
use Rattle.lrat_tool.proofs.ranks.Ranks.rank.Goals as goal

pub returns-clause-rank : goal.returns-clause-rank
returns-clause-rank c all begins =
    IfOk-weaker c.rank_at.result _ _ (λ r h. h ∙ ap (λ n. pos (n + 1)) c.in_ok-place.ensures.index ∙ sym (ap pos (rank_is c.self.inside.variables.keys c.insert_full.new.self.keys c.args.variable all c.in_ok-place.ensures.keys begins)))
    c.rank_at.ensures.rank
