use Rattle.std.proofs.Common.{◌≡◌}
use Rattle.explain_text.proofs.trying.try_all.Given as goal

-- no call of the sink has failed
abbrev pub invariant-loop-record : goal.invariant-loop-record
invariant-loop-record g l = g.K.Sink.faults l.out ≡ g.K.Sink.faults l.fn.out
