use Rattle.std.proofs.Common.{◌∙◌, sym, subst, ap, Ok}
use Rattle.shape_spec.specs.declared.theorem.Part.TheVariants.{Hyp}
use Rattle.gl_symbolic.specs.Decisions.{HasRunOut}
use Rattle.gl_symbolic.specs.Theorems.{input_under, term_at}
use Rattle.gl_symbolic.proofs.Running.{met_where}
use Rattle.gl_symbolic.proofs.Stopped.{given_up_out, no_wide, undecided_shown}
use Rattle.gl_symbolic.proofs.decide.conclude.Goals as goal

pub given_up-requires : goal.given_up-requires
given_up-requires g c = no_wide g.B.Meaning c.reach.new.objs c.in-Ok.edge c.in-Err-reach.fault (c.in-Err-reach.ensures.cause c.in-Ok.edge)

pub returns-in-Ok-None-clause-proper : goal.returns-in-Ok-None-clause-proper
returns-in-Ok-None-clause-proper g c =
    let w = c.args.world.now in
    let thm = c.args.thm.now in
    let none = c.reach.ensures.never (c.in-Ok-None.is ∙ ap Ok c.in-Ok-None.field-0-is) in
    let r = c.requires.reaches in
    ((λ a m. c.in-Ok.ensures.edge.holds a (none a) m), (r.0, met_where w (term_at thm Hyp) (input_under thm r.0) _ (c.requires.hyp.told r.0) r.1))

pub returns-in-Err-reach-clause-run_out : goal.returns-in-Err-reach-clause-run_out
returns-in-Err-reach-clause-run_out g c =
    subst (λ d. HasRunOut g.B.Meaning c.reach.new.objs d) (sym c.given_up.ensures.by) (given_up_out g.B.Meaning c.reach.new.objs c.in-Ok.edge c.in-Err-reach.fault (c.in-Err-reach.ensures.cause c.in-Ok.edge))

pub returns-in-Err-clause-shown : goal.returns-in-Err-clause-shown
returns-in-Err-clause-shown g c = undecided_shown (g.B.CertifyingStore.shown c.refutation.new.objs.store) c.in-Err.decision c.in-Err.ensures.undecided
