use Rattle.std.proofs.Common.{arith, ◌∙◌, sym}
use Rattle.sexp_reader.specs.Bytes.{is_digit}
use Rattle.sexp_reader.proofs.Runs.{stops_at, passes_all}
use Rattle.sexp_reader.proofs.byte.digits_len.Goals as goal

pub returns-then-not-is_digit-clause-told : goal.returns-then-not-is_digit-clause-told
returns-then-not-is_digit-clause-told c = stops_at is_digit c.args.bytes.now c.loop-i.i (omega arith) c.loop-i.invariant (sym c.is_digit.ensures ∙ c.if-not-is_digit.true)

pub returns-clause-told : goal.returns-clause-told
returns-clause-told c = passes_all is_digit c.args.bytes.now c.loop-i.i (omega arith) c.loop-i.invariant
