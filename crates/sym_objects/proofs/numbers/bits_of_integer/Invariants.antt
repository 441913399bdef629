use Rattle.sym_objects.proofs.Halves.{IsAhead}
use Rattle.sym_objects.proofs.numbers.bits_of_integer.Given as goal

abbrev pub invariant-loop : goal.invariant-loop
invariant-loop g l = IsAhead g.B.Meaning l.objs l.fn.i l.counter l.bits l.rest
