use Rattle.gl_book.proofs.Completeness.{walks_alike}
use Rattle.gl_book.proofs.OneText.{texts_alike, books_alike}
use Rattle.gl_book.proofs.laws.one_refusal.Goals as goal

pub returns-clause-text : goal.returns-clause-text
returns-clause-text c = λ names others bounds limits bytes xs ys p q. texts_alike names others bounds limits bytes xs ys p q

pub returns-clause-transcripts : goal.returns-clause-transcripts
returns-clause-transcripts c = λ bounds limits bytes lines others stalls more s t one other. texts_alike one.0 other.0 bounds limits bytes one.1 other.1 one.2 other.2

pub returns-clause-book : goal.returns-clause-book
returns-clause-book c = λ names bounds limits shelf name xs ys p q. books_alike names bounds limits shelf name xs ys p q

pub returns-clause-walk : goal.returns-clause-walk
returns-clause-walk c = λ names bounds limits state items end xs ys p q. walks_alike names bounds limits end state items xs ys p q
