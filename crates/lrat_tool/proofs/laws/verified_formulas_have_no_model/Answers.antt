use Rattle.lrat_tool.proofs.Refuted.{verified_refutes}
use Rattle.lrat_tool.proofs.laws.verified_formulas_have_no_model.Goals as goal

pub returns : goal.returns
returns c = verified_refutes
