use Rattle.std.proofs.Common.{◌∙◌, sym, arith}
use Rattle.lrat_tool.proofs.Texts.{word_at}
use Rattle.lrat_tool.proofs.lines.word_end.Goals as goal

pub returns-else-not-is_blank-clause-words : goal.returns-else-not-is_blank-clause-words
returns-else-not-is_blank-clause-words c = word_at c.args.line.now c.args.from c.loop-at.at (omega arith) (omega arith) c.loop-at.invariant.solid (λ h. sym c.is_blank.ensures ∙ c.if-not-is_blank.false)

pub returns-after-loop-at-clause-words : goal.returns-after-loop-at-clause-words
returns-after-loop-at-clause-words c = word_at c.args.line.now c.args.from c.loop-at.at (omega arith) (omega arith) c.loop-at.invariant.solid (λ h. absurd (omega arith))
