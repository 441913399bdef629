use Rattle.std.proofs.Common.{◌∙◌, ap, sym}
use Rattle.gl_logic.specs.Object.{Cons}
use Rattle.gl_logic.proofs.Elements.{conses-push, list-whole}
use Rattle.gl_logic.proofs.tree.Tree.pair.Goals as goal

pub returns-in_ok-push-in-List : goal.returns-in_ok-push-in-List
returns-in_ok-push-in-List c =
    let es = c.in_ok-push-in-List.ensures.items in
    let whole = list-whole c.rest.inside.node c.in-List.elements c.in-List.tail c.args.rest c.in-List.is c.rest.view_is in
    rw (es, c.in-List.elements-is, c.in-List.tail-is) (conses-push c.in-List.elements.items c.args.first c.in-List.tail.value ∙ ap (Cons c.args.first) (sym whole))
