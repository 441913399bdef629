use Rattle.gl_decide.specs.Bounds.{bounds_of}
use Rattle.shape_spec.specs.TheoremSeen.{theorem_seen}
use Rattle.gl_decide.proofs.Left.{told_answered}
use Rattle.gl_decide.proofs.Symbolic.{told_proper}
use Rattle.gl_decide.proofs.otherwise.decide_in.Goals as goal

pub returns-in-Ok : goal.returns-in-Ok
returns-in-Ok c =
    let w = c.args.world.now in
    let t = c.args.thm.now in
    let d = c.run_in_mode-decision in
    record {
      own = c.requires.mode;
      answered = told_answered (theorem_seen t) d.result.0 c.in-Ok.verdict c.in-Ok.ensures;
      proper = told_proper w (bounds_of c.args.limits.now) t c.requires.covered d.result.0 c.in-Ok.verdict d.ensures.proper c.in-Ok.ensures;
    }
