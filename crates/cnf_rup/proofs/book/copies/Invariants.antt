use Rattle.std.proofs.Common.{◌≡◌, take}
use Rattle.cnf_rup.proofs.book.copies.Given as goal

abbrev pub invariant-loop-place : goal.invariant-loop-place
invariant-loop-place l = l.copies.items ≡ take l.place l.entries
