use Rattle.std.proofs.Common.{◌≡◌}
use Rattle.explain_report.proofs.html.put_page.Given as goal

-- no call of the sink has failed
abbrev pub invariant-loop-verdict : goal.invariant-loop-verdict
invariant-loop-verdict g l = g.K.Sink.faults l.out ≡ g.K.Sink.faults l.fn.out
