use Rattle.std.proofs.Common.{subst}
use Rattle.sexp_reader.specs.Stack.{CanStand, inner_first}
use Rattle.sexp_reader.proofs.Frames.{no_splice}
use Rattle.sexp_reader.proofs.stack.Stack.put.Goals as goal

pub unreachable-requires : goal.unreachable-requires
unreachable-requires c = no_splice (inner_first c.args.self.now) (subst (CanStand c.args.self.now) c.in-Splice.is c.requires)
