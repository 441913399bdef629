use Rattle.std.proofs.Common.{◌∙◌, sym, subst, ap, false}
use Rattle.shape_spec.specs.declared.theorem.Part.TheVariants.{Hyp}
use Rattle.gl_interp.specs.Causes.{StandsFor}
use Rattle.gl_symbolic.specs.Decisions.{IsProper, stopped_by}
use Rattle.gl_symbolic.proofs.Environments.{stands_later}
use Rattle.gl_symbolic.proofs.Running.{of_hyp}
use Rattle.gl_symbolic.proofs.Stopped.{input_stop, part_stop, proper_before, ready_later, rests_then}
use Rattle.gl_symbolic.proofs.runs.hypothesis.Goals as goal

pub condition-requires-clause-reaches : goal.condition-requires-clause-reaches
condition-requires-clause-reaches g c =
    ((λ k. false), ap (λ s. g.B.Meaning.truth_of s.store c.constant_edge-always.result (λ k. false)) c.constant_edge-always.ensures.same ∙ c.constant_edge-always.ensures.truth (λ k. false))

pub condition-requires-clause-fits : goal.condition-requires-clause-fits
condition-requires-clause-fits g c = c.symbolic.ensures.rests.fits c.args.world.now c.requires.ready.fits

pub returns-in-Err-clause-proper : goal.returns-in-Err-clause-proper
returns-in-Err-clause-proper g c =
    let w = c.args.world.now in
    let thm = c.args.thm.now in
    let m = c.args.machine.now in
    subst (λ d. IsProper w m.steps m.arena.limit thm d) (sym c.stopped.ensures.by)
    (input_stop g.B.Meaning c.symbolic.new.objs w thm m c.in-Err.fault c.count-count.ensures.total c.requires.hyp c.requires.ready c.in-Err.ensures.cause)

pub returns-in-Ok-condition-clause-input : goal.returns-in-Ok-condition-clause-input
returns-in-Ok-condition-clause-input g c =
    let b = c.args.thm.now.bindings in
    let env = c.in-Ok.env in
    let here = c.constant_edge-always.new.objs in
    let stands : StandsFor g.B.Meaning here b env = subst (λ s. StandsFor g.B.Meaning s b env) (sym c.constant_edge-always.ensures.same) c.in-Ok.ensures.stands in
    stands_later g.B.Meaning here c.condition.new.objs c.condition.ensures.leaves.grows c.condition.ensures.leaves.width b env stands

pub returns-in-Ok-condition-clause-rests : goal.returns-in-Ok-condition-clause-rests
returns-in-Ok-condition-clause-rests g c = rests_then c.args.machine.now c.symbolic.new.machine c.condition.new.machine c.symbolic.ensures.rests c.condition.ensures.rests

pub returns-in-Err-condition-clause-rests : goal.returns-in-Err-condition-clause-rests
returns-in-Err-condition-clause-rests g c = rests_then c.args.machine.now c.symbolic.new.machine c.condition.new.machine c.symbolic.ensures.rests c.condition.ensures.rests

pub returns-in-Err-condition-clause-proper : goal.returns-in-Err-condition-clause-proper
returns-in-Err-condition-clause-proper g c =
    let w = c.args.world.now in
    let thm = c.args.thm.now in
    let m = c.args.machine.now in
    let mid = c.symbolic.new.machine in
    let env = c.in-Ok.env in
    let here = c.constant_edge-always.new.objs in
    let path = c.constant_edge-always.result in
    let stands : StandsFor g.B.Meaning here thm.bindings env = subst (λ s. StandsFor g.B.Meaning s thm.bindings env) (sym c.constant_edge-always.ensures.same) c.in-Ok.ensures.stands in
    let stop : IsProper w mid.steps mid.arena.limit thm (stopped_by Hyp c.in-Err-condition.fault) =
    part_stop g.B.Meaning here c.condition.new.objs w thm mid Hyp env path c.in-Err-condition.fault c.in-Err-condition.ensures.cause (ready_later w thm m mid c.symbolic.ensures.rests c.requires.ready) (λ a p. of_hyp g.B.Meaning here w thm path a stands.width p) (λ a p. stands.input a) in
    proper_before w thm m mid c.stopped-in-Err-condition.result c.symbolic.ensures.rests (subst (λ d. IsProper w mid.steps mid.arena.limit thm d) (sym c.stopped-in-Err-condition.ensures.by) stop)
