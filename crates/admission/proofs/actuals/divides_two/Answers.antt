use Rattle.admission.proofs.ActualTerms.{no_divisor}
use Rattle.admission.proofs.actuals.divides_two.Goals as goal

pub returns-then-terms-ne2 : goal.returns-then-terms-ne2
returns-then-terms-ne2 c = no_divisor c.args.v.number c.args.prim c.args.terms.now c.if-terms-ne2.true
