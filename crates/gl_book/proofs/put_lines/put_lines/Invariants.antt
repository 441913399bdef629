use Rattle.std.proofs.Common.{◌≡◌, take}
use Rattle.std.specs.List.{concat}
use Rattle.gl_base.specs.Outside.{Grows}
use Rattle.gl_book.proofs.put_lines.put_lines.Given as goal

abbrev pub invariant-loop-i : goal.invariant-loop-i
invariant-loop-i g l =
    (g.O.Observer.faults l.out ≡ g.O.Observer.faults l.fn.out) × Grows (g.O.Observer.written l.fn.out) (g.O.Observer.written l.out) (concat (take l.i l.lines)) × (g.O.Observer.stalls l.out ≡ g.O.Observer.stalls l.fn.out)
