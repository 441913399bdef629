use Rattle.std.proofs.Common.{◌≡◌, drop}
use Rattle.lrat_tool.specs.Pieces.{log_seen, stop_of}
use Rattle.lrat_tool.proofs.pieces.follow.Given as goal

abbrev pub invariant-loop-hint : goal.invariant-loop-hint
invariant-loop-hint l = record {
  rest : stop_of (log_seen l.formula l.log) l.k l.trail.literals l.hint-index (drop l.hint-index l.hints) ≡ stop_of (log_seen l.formula l.log) l.k l.fn.trail.literals 0 l.hints;
  room : l.trail.room ≡ l.fn.trail.room;
}
