use Rattle.coverage.proofs.Arguments.{not_two}
use Rattle.coverage.proofs.forms.first_two.Goals as goal

pub returns-else-terms-eq2 : goal.returns-else-terms-eq2
returns-else-terms-eq2 c = not_two c.args.terms.now c.if-terms-eq2.false
