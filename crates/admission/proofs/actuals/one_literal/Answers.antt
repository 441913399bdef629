use Rattle.admission.proofs.ActualTerms.{no_literal}
use Rattle.admission.proofs.actuals.one_literal.Goals as goal

pub returns-then-terms-ne1 : goal.returns-then-terms-ne1
returns-then-terms-ne1 c = no_literal c.args.terms.now c.if-terms-ne1.true
