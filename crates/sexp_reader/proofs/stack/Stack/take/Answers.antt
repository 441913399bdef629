use Rattle.sexp_reader.proofs.Stacks.{gap_follows}
use Rattle.sexp_reader.proofs.stack.Stack.take.Goals as goal

pub returns-in-Gap-clause-step : goal.returns-in-Gap-clause-step
returns-in-Gap-clause-step c later x = gap_follows later c.args.self.now c.args.place c.args.piece c.in-Gap.count c.in-Gap.is
