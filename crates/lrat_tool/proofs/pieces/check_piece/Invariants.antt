use Rattle.lrat_tool.specs.Pieces.{AllRight, AreChecked, log_seen}
use Rattle.lrat_tool.proofs.pieces.check_piece.Given as goal

abbrev pub invariant-loop-k : goal.invariant-loop-k
invariant-loop-k l = record {
  checked : AreChecked l.trail.room l.formula l.log;
  right : AllRight (log_seen l.formula l.log) l.fn.piece.first l.k;
}
