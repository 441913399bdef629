use Rattle.std.proofs.Common.{sym, subst}
use Rattle.gl_symbolic.specs.Decisions.{HasRunOut}
use Rattle.gl_symbolic.proofs.Stopped.{given_up_out, no_wide}
use Rattle.gl_symbolic.proofs.narrow.may_differ.Goals as goal

pub given_up-requires : goal.given_up-requires
given_up-requires g c = no_wide g.B.Meaning c.reach.new.objs c.in-Ok.apart c.in-Err-reach.fault (c.in-Err-reach.ensures.cause c.in-Ok.apart)

pub returns-clause-run_out : goal.returns-clause-run_out
returns-clause-run_out g c =
    subst (λ d. HasRunOut g.B.Meaning c.reach.new.objs d) (sym c.given_up.ensures.by) (given_up_out g.B.Meaning c.reach.new.objs c.in-Ok.apart c.in-Err-reach.fault (c.in-Err-reach.ensures.cause c.in-Ok.apart))
