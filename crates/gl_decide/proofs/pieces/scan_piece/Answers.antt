use Rattle.std.proofs.Common.{◌≢◌, subst, rules, ℕ}
use Rattle.lisp_eval.specs.MachineCalls.{RefusesForCells}
use Rattle.lisp_eval.specs.declared.fault.EvalFault.TheVariants as fault
use Rattle.shape_spec.specs.TheoremSeen.{theorem_seen}
use Rattle.gl_decide.proofs.Begun.{ready, not_begun}
use Rattle.gl_decide.proofs.pieces.scan_piece.Goals as goal

pub scan_with-requires-clause-ready : goal.scan_with-requires-clause-ready
scan_with-requires-clause-ready c = ready c.args.world.now (theorem_seen c.args.thm.now) c.in-Ok.machine c.begin.new.self c.in-Ok-begin.ensures.begins

pub returns : goal.returns
returns c =
    let limits = c.args.limits.now in
    let refuses : RefusesForCells c.args.world.now limits.cells c.begin.result = subst (λ (k : ℕ). RefusesForCells c.args.world.now k c.begin.result) c.in-Ok.ensures.cells c.begin.ensures.cells in
    let other : c.in-Err.fault ≢ fault.Memory = search (rules, c.in-Err) in
    not_begun c.args.world.now (theorem_seen c.args.thm.now) limits.steps limits.cells c.count-count.ensures.total c.requires.hyp c.args.piece.first c.args.piece.end c.in-Err.fault c.begin.result c.args.piece.has_numbers c.in-Err.is other refuses
