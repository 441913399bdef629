use Rattle.std.proofs.Common.{◌≡◌, take, drop}
use Rattle.book_faults.proofs.terms.all_from.Given as goal

-- the spans from the number on, of those so far
abbrev pub invariant-loop-i : goal.invariant-loop-i
invariant-loop-i l = l.found.items ≡ drop l.first (take l.i l.spans)
