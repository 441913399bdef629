use Rattle.gl_decide.proofs.Agreement.{one_verdict}
use Rattle.gl_decide.proofs.laws.one_verdict.Goals as goal

pub returns : goal.returns
returns c = record { agree = one_verdict }
