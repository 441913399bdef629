use Rattle.std.proofs.Common.{arith, ◌∙◌, sym}
use Rattle.sexp_reader.specs.Bytes.{is_constituent}
use Rattle.sexp_reader.proofs.Runs.{stops_at, passes_all}
use Rattle.sexp_reader.proofs.byte.token_len.Goals as goal

pub returns-then-not-is_constituent : goal.returns-then-not-is_constituent
returns-then-not-is_constituent c = stops_at is_constituent c.args.bytes.now c.loop-i.i (omega arith) c.loop-i.invariant (sym c.is_constituent.ensures ∙ c.if-not-is_constituent.true)

pub returns : goal.returns
returns c = passes_all is_constituent c.args.bytes.now c.loop-i.i (omega arith) c.loop-i.invariant
