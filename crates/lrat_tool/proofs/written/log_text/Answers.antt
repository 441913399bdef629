use Rattle.lrat_tool.proofs.WrittenRefutations.{texts_verified}
use Rattle.lrat_tool.proofs.WrittenSteps.{ok_told}
use Rattle.lrat_tool.proofs.written.log_text.Goals as goal

pub returns-clause-verified : goal.returns-clause-verified
returns-clause-verified c = ok_told c.taken_back.result (texts_verified c.args.book.now c.requires)
