use Rattle.std.proofs.Common.{arith}
use Rattle.gl_logic.specs.DefinitionOf.{definition_of}
use Rattle.gl_book.specs.Lines.{defun_line}
use Rattle.gl_book.proofs.ManyLines.{mapped_more, mapped_done}
use Rattle.gl_book.proofs.lines.add_clique.Goals as goal

pub loop-i-preserved : goal.loop-i-preserved
loop-i-preserved c = mapped_more (defun_line c.args.texts.now) c.args.lines.now c.loop-i.lines c.add_defun.new.lines c.args.defs.now c.loop-i.i (definition_of c.at.result.now) c.at.ensures c.loop-i.invariant c.in_ok-add_defun.ensures

pub returns : goal.returns
returns c = mapped_done (defun_line c.args.texts.now) c.args.lines.now c.loop-i.lines c.args.defs.now c.loop-i.i (omega (arith, c.loop-i-test.false, c.len-i-end.ensures)) c.loop-i.invariant
