use Rattle.std.proofs.Common.{ap, sym, subst, List}
use Rattle.gl_logic.specs.Object.{Object}
use Rattle.lisp_eval.specs.States.{env_of}
use Rattle.shape_spec.specs.TheoremSeen.{theorem_seen}
use Rattle.gl_decide.specs.Trials.{HoldsInput}
use Rattle.gl_decide.proofs.Tried.{stopped_hyp, trial_at}
use Rattle.gl_decide.proofs.Truths.{holds_still}
use Rattle.gl_decide.proofs.trial.tried_on.Goals as goal

pub concluded-requires-clause-holds : goal.concluded-requires-clause-holds
concluded-requires-clause-holds c =
    let w = c.args.world.now in
    let thm = theorem_seen c.args.thm.now in
    let old = c.args.machine.now in
    let new = c.truth.new.machine in
    let rests = c.truth.ensures.rests in
    subst (λ (os : List Object). HoldsInput w thm (env_of os c.args.env.now) new) (sym rests.arena) (holds_still w thm (env_of old.arena.objects c.args.env.now) old new c.requires.holds rests)

pub returns-in-Ok-true-clause-trial : goal.returns-in-Ok-true-clause-trial
returns-in-Ok-true-clause-trial c =
    let rests = c.truth.ensures.rests in
    trial_at c.args.world.now (theorem_seen c.args.thm.now) _ _ _ _ _ _ c.concluded.result rests.settings.steps rests.settings.limit (ap (λ os. env_of os c.args.env.now) rests.arena) c.concluded.ensures.trial

pub returns-in-Err-clause-trial : goal.returns-in-Err-clause-trial
returns-in-Err-clause-trial c =
    stopped_hyp c.args.world.now (theorem_seen c.args.thm.now) (env_of c.args.machine.now.arena.objects c.args.env.now) c.args.machine.now c.requires.holds c.requires.input c.in-Err.fault c.in-Err.ensures.fault
