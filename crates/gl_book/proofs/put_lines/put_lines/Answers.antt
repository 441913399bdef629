use Rattle.std.proofs.Common.{rules, add-one}
use Rattle.gl_book.proofs.Joined.{on_err, line_taken, front_taken}
use Rattle.gl_book.proofs.put_lines.put_lines.Goals as goal

pub returns-in_err-put-clause-front : goal.returns-in_err-put-clause-front
returns-in_err-put-clause-front g c = on_err _ (front_taken _ _ _ c.args.lines.now c.loop-i.i c.at.result.now c.at.ensures c.loop-i.invariant.1 c.in_err-put.ensures.err)

pub loop-i-preserved : goal.loop-i-preserved
loop-i-preserved g c = (search rules, rw add-one (line_taken _ _ _ c.args.lines.now c.loop-i.i c.at.result.now c.at.ensures c.loop-i.invariant.1 c.in_ok-put.ensures.ok), search rules)
