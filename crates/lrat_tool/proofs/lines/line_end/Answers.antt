use Rattle.std.proofs.Common.{arith}
use Rattle.lrat_tool.proofs.Texts.{lines_at}
use Rattle.lrat_tool.proofs.lines.line_end.Goals as goal

pub returns-else-text-at-ne10-clause-lines : goal.returns-else-text-at-ne10-clause-lines
returns-else-text-at-ne10-clause-lines c = lines_at c.args.text.now c.args.from c.loop-at.at (omega arith) (omega arith) c.loop-at.invariant.inner (λ h. c.if-text-at-ne10.false)

pub returns-after-loop-at-clause-lines : goal.returns-after-loop-at-clause-lines
returns-after-loop-at-clause-lines c = lines_at c.args.text.now c.args.from c.loop-at.at (omega arith) (omega arith) c.loop-at.invariant.inner (λ h. absurd (omega arith))
