use Rattle.coverage.proofs.Arguments.{not_alone}
use Rattle.coverage.proofs.forms.first_alone.Goals as goal

pub returns-else-terms-eq1 : goal.returns-else-terms-eq1
returns-else-terms-eq1 c = not_alone c.args.terms.now c.if-terms-eq1.false
