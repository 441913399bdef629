use Rattle.sexp_reader.proofs.Stacks.{on_ok, atomic}
use Rattle.sexp_reader.proofs.stack.Stack.atom.Goals as goal

pub returns-clause-step : goal.returns-clause-step
returns-clause-step c =
    on_ok c.give.result (λ give later x. atomic later c.args.self.now c.args.place c.begin.new.self c.give.new.self c.args.atom c.in_ok-tree.tree
    c.begin.ensures.forms c.begin.ensures.frames c.begin.ensures.begin (c.in_ok-tree.ensures.tree later x) (give later) c.requires) c.give.ensures.step
