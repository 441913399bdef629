use Rattle.std.proofs.Common.{◌≡◌, ◌++◌, map, take}
use Rattle.gl_book.specs.Lines.{defun_line}
use Rattle.gl_book.proofs.lines.add_clique.Given as goal

abbrev pub invariant-loop-i : goal.invariant-loop-i
invariant-loop-i l = l.lines ≡ l.fn.lines ++ map (defun_line l.texts) (take l.i l.defs)
