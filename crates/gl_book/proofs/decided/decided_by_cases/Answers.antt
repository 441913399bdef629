use Rattle.gl_cases.specs.ParamMade.{param_seen}
use Rattle.gl_decide.specs.Bounds.{bounds_of}
use Rattle.gl_book.proofs.PartsDecided.{memory_decides}
use Rattle.gl_book.proofs.decided.decided_by_cases.Goals as goal

pub returns-in-Err : goal.returns-in-Err
returns-in-Err g c = memory_decides (bounds_of c.args.limits.now) c.args.world.now (param_seen c.args.thm.now) c.requires.parts
