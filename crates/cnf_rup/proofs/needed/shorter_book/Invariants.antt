use Rattle.cnf_rup.specs.Trimmed.{IsAlong}
use Rattle.cnf_rup.proofs.needed.shorter_book.Given as goal

abbrev pub invariant-loop-place : goal.invariant-loop-place
invariant-loop-place l = IsAlong l.book l.shorter l.place
