use Rattle.std.proofs.Common.{◌≡◌, ◌≤◌, ◌-◌, length, take}
use Rattle.gl_base.specs.Outside.{Grows}
use Rattle.gl_base.proofs.sink.put_all.Given as goal

abbrev pub invariant-loop-start : goal.invariant-loop-start
invariant-loop-start g l =
    (l.start ≤ length l.piece) × (g.K.Sink.faults l.sink ≡ g.K.Sink.faults l.fn.sink) × Grows (g.K.Sink.written l.fn.sink) (g.K.Sink.written l.sink) (take l.start l.piece)

abbrev pub decreases-loop-start : goal.decreases-loop-start
decreases-loop-start g l = length l.piece - l.start
