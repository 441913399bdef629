use Rattle.std.proofs.Common.{◌≡◌, not, eqb, take}
use Rattle.std.specs.List.{filter}
use Rattle.book_state.proofs.functions.without.Given as goal

abbrev pub invariant-loop-i : goal.invariant-loop-i
invariant-loop-i l = l.left ≡ filter (λ g. not (eqb l.f.number g)) (take l.i l.functions)
