use Rattle.std.proofs.Common.{subst}
use Rattle.cnf_rup.specs.Books.{AllFollow}
use Rattle.cnf_rup.proofs.Logs.{book_follows}
use Rattle.cnf_rup.proofs.book.ClauseBook.count.Goals as goal

pub returns-clause-follow : goal.returns-clause-follow
returns-clause-follow c = subst AllFollow c.self.view_is (book_follows _ c.self.invariant.0)
