use Rattle.std.proofs.Common.{arith}
use Rattle.gl_book.proofs.Inputs.{input_more, input_done}
use Rattle.gl_book.proofs.lines.add_input.Goals as goal

pub loop-i-preserved : goal.loop-i-preserved
loop-i-preserved c = input_more c.args.texts.now c.args.lines.now c.loop-i.lines c.add_variable.new.lines c.args.input.now c.loop-i.i (c.at.result.0.number, c.at.result.1.now) c.at.ensures c.loop-i.invariant c.in_ok-add_variable.ensures

pub returns : goal.returns
returns c = input_done c.args.texts.now c.args.lines.now c.loop-i.lines c.args.input.now c.loop-i.i (omega (arith, c.loop-i-test.false, c.len-i-end.ensures)) c.loop-i.invariant
