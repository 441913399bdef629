use Rattle.gl_book.proofs.Completeness.{value_found, truth_found}
use Rattle.gl_book.proofs.laws.values_are_found.Goals as goal

pub returns-clause-value : goal.returns-clause-value
returns-clause-value c = λ w bounds memoized t a h small p. value_found bounds w memoized t h a small p

pub returns-clause-truth : goal.returns-clause-truth
returns-clause-truth c = λ w bounds memoized t a h p. truth_found bounds w memoized t h a p
