use Rattle.std.proofs.Common.{sym}
use Rattle.sexp_reader.proofs.Prefixes.{begins_short}
use Rattle.sexp_reader.proofs.symbol.begins_as.Goals as goal

pub returns-then-token-text-clause-told : goal.returns-then-token-text-clause-told
returns-then-token-text-clause-told c = sym (begins_short c.args.text.now c.args.token.now c.if-token-text.true)
