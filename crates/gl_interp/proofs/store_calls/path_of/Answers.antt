use Rattle.std.proofs.Common.{subst, sym}
use Rattle.gl_interp.specs.TurnFaults.{HasPlainCause}
use Rattle.gl_interp.proofs.PlainFaults.{plain_from}
use Rattle.gl_interp.proofs.store_calls.path_of.Goals as goal

pub returns-clause-cause : goal.returns-clause-cause
returns-clause-cause g c = subst (λ f. HasPlainCause g.B.Meaning c.reaches.new.objs f) (sym c.of.ensures) (plain_from g.B.Meaning c.reaches.new.objs c.args.edge c.in-Err.fault (c.in-Err.ensures.cause c.args.edge))
