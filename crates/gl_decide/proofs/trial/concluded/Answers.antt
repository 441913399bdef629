use Rattle.lisp_eval.specs.States.{env_of}
use Rattle.shape_spec.specs.TheoremSeen.{theorem_seen}
use Rattle.gl_decide.proofs.Tried.{stopped_concl}
use Rattle.gl_decide.proofs.trial.concluded.Goals as goal

pub returns-in-Err-clause-trial : goal.returns-in-Err-clause-trial
returns-in-Err-clause-trial c =
    stopped_concl c.args.world.now (theorem_seen c.args.thm.now) (env_of c.args.machine.now.arena.objects c.args.env.now) c.args.machine.now c.requires.holds c.requires.input c.in-Err.fault c.requires.met c.in-Err.ensures.fault
