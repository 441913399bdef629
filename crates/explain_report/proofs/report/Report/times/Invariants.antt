use Rattle.std.specs.Prelude.{replicate}
use Rattle.explain_report.specs.Said.{Adds}
use Rattle.explain_report.proofs.report.Report.times.Given as goal

abbrev pub invariant-loop : goal.invariant-loop
invariant-loop l = Adds (replicate l.counter l.fn.byte) l.fn.self l.self
