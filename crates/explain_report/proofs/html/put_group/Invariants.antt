use Rattle.std.proofs.Common.{◌≡◌}
use Rattle.explain_report.proofs.html.put_group.Given as goal

-- no call of the sink has failed
abbrev pub invariant-loop-i : goal.invariant-loop-i
invariant-loop-i g l = g.K.Sink.faults l.out ≡ g.K.Sink.faults l.fn.out
