use Rattle.std.proofs.Common.{subst}
use Rattle.gl_interp.specs.declared.frame.Work.{Work}
use Rattle.gl_interp.specs.Running.{IsWorkOf}
use Rattle.gl_interp.proofs.TermsLeft.{arity_below}
use Rattle.gl_interp.proofs.runs.is_unasked.Goals as goal

pub def-requires : goal.def-requires
def-requires c =
    let ds = c.args.world.now.definitions in
    arity_below ds c.in-Call.f.number c.requires.0 (subst (λ (k : Work). IsWorkOf ds c.requires.0 k) c.in-Call.is c.requires.1)
