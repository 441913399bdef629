use Rattle.std.proofs.Common.{◌∙◌, sym, ap}
use Rattle.sexp_reader.specs.Stack.{listed}
use Rattle.sexp_reader.proofs.Frames.{listed_push}
use Rattle.sexp_reader.proofs.stack.OpenList.close.Goals as goal

pub loop-element-preserved : goal.loop-element-preserved
loop-element-preserved c =
    ap (listed c.pop.new.self.items) c.in_ok-tree.ensures
    ∙ (sym (listed_push c.pop.new.self.items c.in-Some.element c.loop-element.tree)
    ∙ (ap (λ xs. listed xs c.loop-element.tree) (sym c.in-Some.ensures.items) ∙ c.loop-element.invariant))
