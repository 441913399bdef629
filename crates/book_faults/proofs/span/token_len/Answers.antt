use Rattle.std.proofs.Common.{arith, sym, ap, not, ◌∙◌}
use Rattle.book_faults.specs.Parts.{goes_on}
use Rattle.sexp_reader.proofs.Runs.{stops_at, passes_all}
use Rattle.book_faults.proofs.span.token_len.Goals as goal

pub returns-then-ends_token-clause-told : goal.returns-then-ends_token-clause-told
returns-then-ends_token-clause-told c = stops_at goes_on c.args.text.now c.loop-i.i (omega arith) c.loop-i.invariant (ap not (sym c.ends_token.ensures ∙ c.if-ends_token.true))

pub returns-clause-told : goal.returns-clause-told
returns-clause-told c = passes_all goes_on c.args.text.now c.loop-i.i (omega arith) c.loop-i.invariant
