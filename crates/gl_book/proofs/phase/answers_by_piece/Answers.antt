use Rattle.std.proofs.Common.{sym, rules, subst, get_or}
use Rattle.std.proofs.lemmas.Result.{IfOk-weaker}
use Rattle.std.proofs.Crossing.{crosses}
use denote.Param.Send.{sendable}
use Rattle.gl_decide.specs.Bounds.{bounds_of}
use Rattle.gl_book.specs.Phases.{IsPieceAnswered}
use Rattle.gl_book.specs.Tasks.{tasks_in}
use Rattle.gl_book.specs.declared.piece.Piece.{Piece}
use Rattle.gl_base.proofs.limits.Limits.TheSendSync as limits
use Rattle.shape_spec.proofs.fn_set.FnSet.TheSendSync as functions
use Rattle.gl_book.proofs.Shared.{answer_send, event_sync, thm_sync, world_sync}
use Rattle.gl_book.proofs.phase.answers_by_piece.Goals as goal

pub map_vec-requires-sync-F : goal.map_vec-requires-sync-F
map_vec-requires-sync-F g c κs within = let r = c.type_bounds.sync-R in let k = c.type_bounds.sync-G in search (sendable, crosses, world_sync, event_sync, thm_sync, functions.the_sync, limits.the_sync) depth 60

pub map_vec-requires-send-X : goal.map_vec-requires-send-X
map_vec-requires-send-X g c κs within = let a = answer_send in search (sendable, crosses) depth 60

pub returns-clause-each : goal.returns-clause-each
returns-clause-each g c = IfOk-weaker c.map_vec.result _ _ (λ v h i p a l.
    let j = (h i a l).1 in
    subst (λ (x : Piece). IsPieceAnswered (bounds_of c.args.limits.now) c.args.world.now (tasks_in c.args.tasks.now) x (get_or v.items i a)) (sym (j.job_is p)) (search (rules, j.call.met))) c.map_vec.ensures.each
