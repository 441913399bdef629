use Rattle.std.proofs.Common.{◌≡◌, ◌++◌, map, take}
use Rattle.gl_book.specs.Lines.{redundant_line}
use Rattle.gl_book.proofs.lines.add_redundant_clique.Given as goal

abbrev pub invariant-loop-i : goal.invariant-loop-i
invariant-loop-i l = l.lines ≡ l.fn.lines ++ map (redundant_line l.texts) (take l.i l.names)
