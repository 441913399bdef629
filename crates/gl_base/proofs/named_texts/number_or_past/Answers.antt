use Rattle.std.proofs.Common.{sym, length, arith}
use Rattle.gl_base.proofs.Places.{no_text_here}
use Rattle.gl_base.proofs.named_texts.number_or_past.Goals as goal

pub returns-in-None : goal.returns-in-None
returns-in-None c = rw c.in-None.ensures.absent (sym (no_text_here c.args.texts.now (length c.args.texts.now) (omega arith)))
