use Rattle.std.proofs.Common.{sym, arith, rules, subst, get_or}
use Rattle.std.proofs.lemmas.Result.{IfOk-weaker}
use Rattle.lrat_tool.specs.Pieces.{IsFoundOf, log_seen}
use Rattle.lrat_tool.specs.declared.piece.Piece.{Piece}
use Rattle.lrat_tool.proofs.Ranges.{ends_within}
use Rattle.lrat_tool.proofs.pieces.answers.Goals as goal

pub returns-clause-each : goal.returns-clause-each
returns-clause-each g c = IfOk-weaker c.map_vec.result _ _ (λ v h i p a l.
    let j = (h i a l).1 in
    subst (λ (x : Piece). IsFoundOf (log_seen c.args.formula.now c.args.log.now) x (get_or v.items i a)) (sym (j.job_is p)) (search (rules, j.call.met))) c.map_vec.ensures.each

pub map_vec-requires-after_bounds : goal.map_vec-requires-after_bounds
map_vec-requires-after_bounds g c κs within i x l e =
    (omega (arith, ends_within 0 c.args.end c.args.pieces.items i x c.requires.pieces l e, c.requires.end), c.requires.checked)
