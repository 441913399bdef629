use Rattle.std.proofs.Common.{arith}
use Rattle.lrat_tool.proofs.Texts.{no_comment, no_comment_of_none, words_of_comment, words_of_other}
use Rattle.lrat_tool.proofs.lines.line_at.Goals.{else-from-end-via-then-from-end+else-text-from-eq99, else-from-end-via-else-from-end}
use Rattle.lrat_tool.proofs.lines.line_at.Goals as goal

pub returns-then-text-from-eq99-clause-words : goal.returns-then-text-from-eq99-clause-words
returns-then-text-from-eq99-clause-words c = words_of_comment c.args.text.now c.args.from c.line_end-end.result (omega arith) (omega arith) (omega arith)

pub returns-else-from-end-clause-words : goal.returns-else-from-end-clause-words
returns-else-from-end-clause-words c = elim c.else-from-end.branch [
  | else-from-end-via-then-from-end+else-text-from-eq99 w ↦
      words_of_other c.args.text.now c.args.from c.line_end-end.result (omega arith) (no_comment c.args.text.now c.args.from c.line_end-end.result (omega arith) (omega arith) w.if-text-from-eq99.false)
  | else-from-end-via-else-from-end w ↦
      words_of_other c.args.text.now c.args.from c.line_end-end.result (omega arith) (no_comment_of_none c.args.text.now c.args.from c.line_end-end.result (omega arith))
]
