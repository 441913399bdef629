use Rattle.std.proofs.Common.{◌≡◌, ◌++◌, take}
use Rattle.sexp_print.specs.Printed.{escaped}
use Rattle.sexp_print.proofs.atoms.append_escaped.Given as goal

abbrev pub invariant-loop-byte : goal.invariant-loop-byte
invariant-loop-byte l = l.out.items ≡ l.fn.out.items ++ escaped (take l.byte-index l.bytes)
