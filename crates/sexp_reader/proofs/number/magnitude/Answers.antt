use Rattle.std.proofs.Common.{arith, ◌^◌}
use Rattle.sexp_reader.proofs.Magnitudes.{large_from}
use Rattle.sexp_reader.proofs.number.magnitude.Goals as goal

pub returns-in_default : goal.returns-in_default
returns-in_default c = large_from c.args.base c.loop-digit.number c.args.digits.now c.loop-digit.digit-index (2 ^ 128) c.loop-digit-test.true c.loop-digit.invariant (omega arith) (grind (arith, c.in_default.ensures))

pub returns-in_default-checked_add : goal.returns-in_default-checked_add
returns-in_default-checked_add c = large_from c.args.base c.loop-digit.number c.args.digits.now c.loop-digit.digit-index (2 ^ 128) c.loop-digit-test.true c.loop-digit.invariant (omega arith) (grind (arith, c.in_default-checked_add.ensures, c.in-Some.ensures))
