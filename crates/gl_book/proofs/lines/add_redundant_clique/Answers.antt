use Rattle.std.proofs.Common.{arith}
use Rattle.gl_book.specs.Lines.{redundant_line}
use Rattle.gl_book.proofs.ManyLines.{mapped_more, mapped_done}
use Rattle.gl_book.proofs.lines.add_redundant_clique.Goals as goal

pub loop-i-preserved : goal.loop-i-preserved
loop-i-preserved c = mapped_more (redundant_line c.args.texts.now) c.args.lines.now c.loop-i.lines c.add_redundant.new.lines c.args.names.now c.loop-i.i c.at.result.now.number c.at.ensures c.loop-i.invariant c.in_ok-add_redundant.ensures

pub returns : goal.returns
returns c = mapped_done (redundant_line c.args.texts.now) c.args.lines.now c.loop-i.lines c.args.names.now c.loop-i.i (omega (arith, c.loop-i-test.false, c.len-i-end.ensures)) c.loop-i.invariant
