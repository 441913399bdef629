use Rattle.admission.proofs.ActualTerms.{no_more}
use Rattle.admission.proofs.actuals.more_of_two.Goals as goal

pub returns-then-terms-ne2 : goal.returns-then-terms-ne2
returns-then-terms-ne2 c = no_more c.args.v.number c.args.terms.now c.if-terms-ne2.true
