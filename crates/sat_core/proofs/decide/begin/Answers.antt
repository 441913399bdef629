use Rattle.std.proofs.Common.{arith}
use Rattle.sat_core.proofs.Books.{begins}
use Rattle.sat_core.proofs.decide.begin.Goals as goal

pub returns : goal.returns
returns c = begins c.args.aig.now.nodes c.args.e c.in_ok-book.book c.count-count.ensures.book c.in_ok-book.ensures.first c.in_ok-book.ensures.clauses c.in_ok-book.ensures.extends (omega (arith, c.in_ok-book.ensures.few, c.count-within.ensures.count, c.count-within.ensures.within, c.limit-small.ensures.small, c.limit-small.ensures.limit)) (omega (arith, c.in_ok-book.ensures.few, c.count-count.ensures.book, c.count-within.ensures.count)) c.in_ok-book.ensures.variables
