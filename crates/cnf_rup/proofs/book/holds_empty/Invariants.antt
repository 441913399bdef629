use Rattle.std.proofs.Common.{◌≡◌, take, false}
use Rattle.cnf_rup.specs.Books.{holds_empty}
use Rattle.cnf_rup.proofs.book.holds_empty.Given as goal

abbrev pub invariant-loop-entry : goal.invariant-loop-entry
invariant-loop-entry l = holds_empty (take l.entry-index l.entries) ≡ false
