use Rattle.std.proofs.Common.{subst, refl, ℕ}
use Rattle.lisp_eval.specs.MachineCalls.{HasTooManyConstants}
use Rattle.gl_symbolic.proofs.Begun.{unplaced_proper}
use Rattle.gl_symbolic.proofs.room.run_on.Goals as goal

pub returns-in-Err-Cells-clause-proper : goal.returns-in-Err-Cells-clause-proper
returns-in-Err-Cells-clause-proper c =
    let w = c.args.world.now in
    let limits = c.args.limits.now in
    let many : HasTooManyConstants w c.args.machine.now.arena.limit = c.begin.ensures.cells.cells (rw (c.in-Err-Cells.is, c.in-Err-Cells.field-0-is) refl) in
    unplaced_proper w c.args.thm.now limits.steps limits.cells c.count-count.ensures.total c.requires.hyp (subst (λ (n : ℕ). HasTooManyConstants w n) c.requires.cells many) c.unplaced.result c.unplaced.ensures
