use Rattle.gl_logic.specs.Steps.{gap_term}
use Rattle.admission.proofs.Arguments.{one_is_not}
use Rattle.admission.proofs.variables.is_gap_alone.Goals as goal

pub returns-then-terms-ne1 : goal.returns-then-terms-ne1
returns-then-terms-ne1 c = one_is_not (gap_term c.args.a.number c.args.b.number) c.args.terms.now c.if-terms-ne1.true
