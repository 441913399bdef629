use Rattle.std.proofs.Common.{◌≡◌, false, eqb, take}
use Rattle.std.specs.List.{list_any}
use Rattle.book_state.proofs.functions.contains.Given as goal

abbrev pub invariant-loop-i : goal.invariant-loop-i
invariant-loop-i l = list_any (eqb l.f.number) (take l.i l.functions) ≡ false
