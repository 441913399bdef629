use Rattle.std.proofs.Common.{sym, rules, subst, get_or}
use Rattle.std.proofs.lemmas.Result.{IfOk-weaker}
use Rattle.shape_spec.specs.TheoremSeen.{theorem_seen}
use Rattle.gl_decide.specs.Pieces.{IsProperOf}
use Rattle.gl_decide.specs.declared.piece.Piece.{Piece}
use Rattle.gl_decide.proofs.scanning.answers.Goals as goal

pub returns-clause-each : goal.returns-clause-each
returns-clause-each g c = IfOk-weaker c.map_vec.result _ _ (λ v h i p a l.
    let j = (h i a l).1 in
    subst (λ (x : Piece). IsProperOf c.args.world.now c.args.limits.now.steps c.args.limits.now.cells (theorem_seen c.args.thm.now) x (get_or v.items i a)) (sym (j.job_is p)) (search (rules, j.call.met))) c.map_vec.ensures.each
