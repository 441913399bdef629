use Rattle.lrat_tool.proofs.Refuted.{sound_of}
use Rattle.lrat_tool.proofs.checking.judge.Goals as goal

pub returns-clause-sound : goal.returns-clause-sound
returns-clause-sound g c = sound_of c.args.cnf.now c.args.log.now c.judge_texts.result c.judge_texts.ensures
