use Rattle.coverage.proofs.Covering.{holds_from_numbers, never_from_numbers}
use Rattle.coverage.proofs.soundness.inputs_decide.Goals as goal

pub returns-clause-holds : goal.returns-clause-holds
returns-clause-holds c = holds_from_numbers

pub returns-clause-never : goal.returns-clause-never
returns-clause-never c = never_from_numbers
