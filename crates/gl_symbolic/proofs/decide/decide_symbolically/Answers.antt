use Rattle.std.proofs.Common.{◌∙◌, sym, subst, ap, Ok}
use Rattle.shape_spec.specs.declared.theorem.Part.TheVariants.{Hyp}
use Rattle.gl_symbolic.specs.Decisions.{HasRunOut}
use Rattle.gl_symbolic.specs.Theorems.{input_under, term_at}
use Rattle.gl_symbolic.proofs.Environments.{stands_later, stands_under}
use Rattle.gl_symbolic.proofs.Running.{unmet_where}
use Rattle.gl_symbolic.proofs.Stopped.{given_up_out, no_wide, undecided_shown, ready_later, rests_then}
use Rattle.gl_symbolic.proofs.decide.decide_symbolically.Goals as goal

pub returns-in-Ok-None-clause-proper : goal.returns-in-Ok-None-clause-proper
returns-in-Ok-None-clause-proper g c =
    let thm = c.args.thm.now in
    let none = c.reach.ensures.never (c.in-Ok-None.is ∙ ap Ok c.in-Ok-None.field-0-is) in
    λ a m. unmet_where c.args.world.now (term_at thm Hyp) (input_under thm a) _ (c.in-Ok.ensures.edge.told a) (none a) m

pub conclude-requires-clause-ready : goal.conclude-requires-clause-ready
conclude-requires-clause-ready g c = ready_later c.args.world.now c.args.thm.now c.args.machine.now c.hypothesis.new.machine c.hypothesis.ensures.rests c.requires.ready

pub conclude-requires-clause-input : goal.conclude-requires-clause-input
conclude-requires-clause-input g c =
    let thm = c.args.thm.now in
    let after = c.reach.new.objs in
    let leaves = c.reach.ensures.leaves in
    stands_under g.B.Meaning after thm c.in-Ok.hyp c.in-Ok.env (stands_later g.B.Meaning c.hypothesis.new.objs after leaves.grows leaves.width thm.bindings c.in-Ok.env c.in-Ok.ensures.input)

pub returns-in-Ok-Some-clause-rests : goal.returns-in-Ok-Some-clause-rests
returns-in-Ok-Some-clause-rests g c = rests_then c.args.machine.now c.hypothesis.new.machine c.conclude.new.machine c.hypothesis.ensures.rests c.conclude.ensures.rests

pub given_up-requires : goal.given_up-requires
given_up-requires g c = no_wide g.B.Meaning c.reach.new.objs c.in-Ok.hyp c.in-Err-reach.fault (c.in-Err-reach.ensures.cause c.in-Ok.hyp)

pub returns-clause-run_out : goal.returns-clause-run_out
returns-clause-run_out g c =
    subst (λ d. HasRunOut g.B.Meaning c.reach.new.objs d) (sym c.given_up.ensures.by) (given_up_out g.B.Meaning c.reach.new.objs c.in-Ok.hyp c.in-Err-reach.fault (c.in-Err-reach.ensures.cause c.in-Ok.hyp))

pub returns-in-Err-clause-shown : goal.returns-in-Err-clause-shown
returns-in-Err-clause-shown g c = undecided_shown (g.B.CertifyingStore.shown c.hypothesis.new.objs.store) c.in-Err.decision c.in-Err.ensures.undecided

pub conclude_narrowed-requires-clause-ready : goal.conclude_narrowed-requires-clause-ready
conclude_narrowed-requires-clause-ready g c = ready_later c.args.world.now c.args.thm.now c.args.machine.now c.hypothesis.new.machine c.hypothesis.ensures.rests c.requires.ready

pub returns-in-Bdd-clause-rests : goal.returns-in-Bdd-clause-rests
returns-in-Bdd-clause-rests g c = rests_then c.args.machine.now c.hypothesis.new.machine c.conclude_narrowed.new.machine c.hypothesis.ensures.rests c.conclude_narrowed.ensures.rests
