use Rattle.sexp_reader.specs.Reads.{start}
use Rattle.sexp_reader.proofs.Exact.{some_reading, one_reading}
use Rattle.sexp_reader.proofs.text.has_one_reading.Goals as goal

pub returns-clause-some : goal.returns-clause-some
returns-clause-some c names bytes = some_reading names (start bytes)

pub returns-clause-one : goal.returns-clause-one
returns-clause-one c names bytes forms others end other d f = one_reading names (start bytes) forms others end other d f
