use Rattle.std.proofs.Common.{◌≡◌}
use Rattle.explain_text.proofs.trying.try_event.Given as goal

-- no call of the sink has failed
abbrev pub invariant-loop : goal.invariant-loop
invariant-loop g l = g.K.Sink.faults l.out ≡ g.K.Sink.faults l.fn.out
