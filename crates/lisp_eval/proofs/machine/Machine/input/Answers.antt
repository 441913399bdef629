use Rattle.std.proofs.Common.{ap}
use Rattle.fast_alists.proofs.Agreeing.{tables_stay}
use Rattle.lisp_eval.specs.Machines.{MachineSeen}
use Rattle.lisp_eval.proofs.Machines.{live_more, fits_input}
use Rattle.lisp_eval.proofs.machine.Machine.input.Goals as goal

pub invariant_of-self : goal.invariant_of-self
invariant_of-self c =
    let old = c.self.inside.arena.objects in
    let new = c.place.new.self.objects in
    let adds = c.place.ensures.places.objects in (
      tables_stay c.args.tree.now old new adds c.self.inside.alists c.self.invariant.0,
      live_more c.args.tree.now old new c.self.inside.memos adds c.self.invariant.1,
    )

pub returns-clause-fits : goal.returns-clause-fits
returns-clause-fits c w h =
    fits_input w c.args.self.now _ c.self.inside.arena c.args.tree.now (ap (λ (m : MachineSeen). m.arena) c.self.view_is) c.place.ensures.places.objects (ap (λ (m : MachineSeen). m.functions) c.self.view_is) (ap (λ (m : MachineSeen). m.memos) c.self.view_is) h
