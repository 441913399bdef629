use Rattle.lrat_tool.proofs.WrittenRefutations.{texts_verified}
use Rattle.lrat_tool.proofs.laws.written_texts_are_verified.Goals as goal

pub returns : goal.returns
returns c = texts_verified
