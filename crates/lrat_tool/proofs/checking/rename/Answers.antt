use Rattle.std.proofs.lemmas.Result.{on_ok_weaker}
use Rattle.lrat_tool.specs.Ranks.{ranked}
use Rattle.lrat_tool.proofs.Ranked.{begins_itself, renaming, stays}
use Rattle.lrat_tool.proofs.checking.rename.Goals as goal

pub returns-then-room_of-literals : goal.returns-then-room_of-literals
returns-then-room_of-literals c = stays c.args.formula.now.lists c.args.clauses.now.lists

pub returns : goal.returns
returns c =
    let ranks = c.rename-2.new.ranks in
    on_ok_weaker c.rename-2.result
    (λ h. record { by = ranked ranks; is = renaming ranks; formula_is = c.in_ok-rename.ensures.ok ranks c.rename-2.ensures.grows; clauses_is = h })
    (c.rename-2.ensures.ok ranks (begins_itself ranks))
