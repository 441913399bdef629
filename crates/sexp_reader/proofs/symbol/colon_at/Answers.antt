use Rattle.std.proofs.Common.{arith, not, ap}
use Rattle.std.specs.Prelude.{◌==◌}
use Rattle.sexp_reader.proofs.Runs.{stops_at, passes_all}
use Rattle.sexp_reader.proofs.symbol.colon_at.Goals as goal

pub returns-then-byte-eq58 : goal.returns-then-byte-eq58
returns-then-byte-eq58 c = stops_at (λ byte. not (byte == 58)) c.args.bytes.now c.loop-i.i (omega arith) c.loop-i.invariant (ap (λ byte. not (byte == 58)) c.if-byte-eq58.true)

pub returns : goal.returns
returns c = passes_all (λ byte. not (byte == 58)) c.args.bytes.now c.loop-i.i (omega arith) c.loop-i.invariant
