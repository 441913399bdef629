use Rattle.gl_book.proofs.Shares.{Dealing}
use Rattle.gl_book.proofs.pieces.pieces_of.Given as goal

abbrev pub invariant-loop-k : goal.invariant-loop-k
invariant-loop-k l = Dealing l.count l.parts l.k l.pieces.items
