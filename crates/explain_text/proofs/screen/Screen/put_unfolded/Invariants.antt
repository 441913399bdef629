use Rattle.std.proofs.Common.{◌≡◌}
use Rattle.explain_text.proofs.screen.Screen.put_unfolded.Given as goal

-- no call of the sink has failed
abbrev pub invariant-loop-number : goal.invariant-loop-number
invariant-loop-number g l = g.K.Sink.faults l.out ≡ g.K.Sink.faults l.fn.out
