use Rattle.std.proofs.Common.{ap}
use Rattle.lisp_eval.specs.Machines.{MachineSeen}
use Rattle.lisp_eval.proofs.Machines.{memos_fit, fit_live, fits_kept}
use Rattle.lisp_eval.proofs.machine.Machine.eval.Goals as goal

pub invariant_of-self : goal.invariant_of-self
invariant_of-self c =
    let ds = c.args.world.now.definitions in
    let new = c.evaluate.new.arena.objects in
    let e = c.evaluate.ensures in
    (e.alists, fit_live ds new c.evaluate.new.memos (memos_fit ds new c.evaluate.new.memos c.evaluate.result e.memos e.emptied))

pub returns-clause-fits : goal.returns-clause-fits
returns-clause-fits c =
    let ds = c.args.world.now.definitions in
    let e = c.evaluate.ensures in
    fits_kept c.args.world.now c.args.self.now _ (memos_fit ds c.evaluate.new.arena.objects c.evaluate.new.memos c.evaluate.result e.memos e.emptied) (ap (λ (m : MachineSeen). m.functions) c.self.view_is) c.requires.fits
