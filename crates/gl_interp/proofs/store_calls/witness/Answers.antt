use Rattle.std.proofs.Common.{subst, sym}
use Rattle.gl_interp.specs.TurnFaults.{HasPlainCause}
use Rattle.gl_interp.proofs.PlainFaults.{plain_from}
use Rattle.gl_interp.proofs.store_calls.witness.Goals as goal

pub returns-in-Err-clause-cause : goal.returns-in-Err-clause-cause
returns-in-Err-clause-cause g c = subst (λ f. HasPlainCause g.B.Meaning c.reaches.new.objs f) (sym c.of.ensures) (plain_from g.B.Meaning c.reaches.new.objs c.args.path.now.edge c.in-Err.fault (c.in-Err.ensures.cause c.args.path.now.edge))
