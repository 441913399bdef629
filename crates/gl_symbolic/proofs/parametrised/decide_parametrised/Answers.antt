use Rattle.std.proofs.Common.{◌∙◌, ap, refl, Err}
use Rattle.shape_spec.specs.declared.theorem.Part.TheVariants.{Hyp}
use Rattle.gl_symbolic.specs.Theorems.{input_under, term_at}
use Rattle.gl_symbolic.proofs.Running.{unmet_where}
use Rattle.gl_symbolic.proofs.Stopped.{ready_later, rests_then}
use Rattle.gl_symbolic.proofs.parametrised.decide_parametrised.Goals as goal

pub conclude_parametrised-requires-clause-ready : goal.conclude_parametrised-requires-clause-ready
conclude_parametrised-requires-clause-ready c = ready_later c.args.world.now c.args.thm.now c.args.machine.now c.hypothesis.new.machine c.hypothesis.ensures.rests c.requires.ready

pub returns-in-Ok-parameters-clause-rests : goal.returns-in-Ok-parameters-clause-rests
returns-in-Ok-parameters-clause-rests c = rests_then c.args.machine.now c.hypothesis.new.machine c.conclude_parametrised.new.machine c.hypothesis.ensures.rests c.conclude_parametrised.ensures.rests

pub returns-in-Err-Empty-clause-proper : goal.returns-in-Err-Empty-clause-proper
returns-in-Err-Empty-clause-proper c =
    let none = c.parameters.ensures.empty (rw (c.in-Err-Empty.is, c.in-Err-Empty.field-0-is) refl) in
    λ a m. unmet_where c.args.world.now (term_at c.args.thm.now Hyp) (input_under c.args.thm.now a) _ (c.in-Ok.ensures.edge.told a) (none a) m

pub returns-in-Err-Full-clause-full : goal.returns-in-Err-Full-clause-full
returns-in-Err-Full-clause-full c = c.parameters.ensures.full (rw (c.in-Err-Full.is, c.in-Err-Full.field-0-is) refl)
