use Rattle.std.proofs.Common.{◌≡◌, eqb, drop}
use Rattle.std.specs.List.{list_any}
use Rattle.coverage.proofs.free.has_name.Given as goal

abbrev pub invariant-loop-i : goal.invariant-loop-i
invariant-loop-i l = list_any (λ u. eqb u l.variable.number) (drop l.i l.names) ≡ list_any (λ u. eqb u l.variable.number) l.names
