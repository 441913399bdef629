use Rattle.gl_decide.proofs.Agreement.{scan_least, one_least, scan_clean}
use Rattle.gl_decide.proofs.laws.one_refutation.Goals as goal

pub returns-clause-least : goal.returns-clause-least
returns-clause-least c = scan_least

pub returns-clause-one : goal.returns-clause-one
returns-clause-one c = one_least

pub returns-clause-clean : goal.returns-clause-clean
returns-clause-clean c = scan_clean
