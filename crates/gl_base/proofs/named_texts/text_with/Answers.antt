use Rattle.std.proofs.Common.{◌∙◌}
use Rattle.gl_base.proofs.Places.{text_here, no_text_here}
use Rattle.gl_base.proofs.named_texts.text_with.Goals as goal

pub returns-then-number-texts : goal.returns-then-number-texts
returns-then-number-texts c =
    c.as_slice.ensures.value ∙ text_here c.args.texts.now c.args.number c.index-texts-number.result c.if-number-texts.true

pub returns-else-number-texts : goal.returns-else-number-texts
returns-else-number-texts c = no_text_here c.args.texts.now c.args.number c.if-number-texts.false
