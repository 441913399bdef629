use Rattle.std.proofs.Common.{◌≡◌, ◌++◌, take}
use Rattle.gl_book.specs.Lines.{input_lines}
use Rattle.gl_book.proofs.lines.add_input.Given as goal

abbrev pub invariant-loop-i : goal.invariant-loop-i
invariant-loop-i l = l.lines ≡ l.fn.lines ++ input_lines l.texts (take l.i l.input)
