use Rattle.std.proofs.Common.{arith, not, ap}
use Rattle.std.specs.Prelude.{◌==◌}
use Rattle.sexp_reader.proofs.Runs.{stops_at, passes_all}
use Rattle.sexp_reader.proofs.byte.line_len.Goals as goal

pub returns-then-byte-eq10-clause-told : goal.returns-then-byte-eq10-clause-told
returns-then-byte-eq10-clause-told c = stops_at (λ byte. not (byte == 10)) c.args.bytes.now c.loop-i.i (omega arith) c.loop-i.invariant (ap (λ byte. not (byte == 10)) c.if-byte-eq10.true)

pub returns-clause-told : goal.returns-clause-told
returns-clause-told c = passes_all (λ byte. not (byte == 10)) c.args.bytes.now c.loop-i.i (omega arith) c.loop-i.invariant
