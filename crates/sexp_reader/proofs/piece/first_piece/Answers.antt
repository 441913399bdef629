use Rattle.std.proofs.Common.{subst, sym, length}
use Rattle.sexp_reader.specs.Pieces.{Spans}
use Rattle.sexp_reader.proofs.Spans.{piece_spans}
use Rattle.sexp_reader.proofs.piece.first_piece.Goals as goal

pub returns-clause-spans : goal.returns-clause-spans
returns-clause-spans c = subst (Spans (length c.args.bytes.now)) (sym c.in_ok-piece.ensures) (piece_spans c.args.bytes.now)
