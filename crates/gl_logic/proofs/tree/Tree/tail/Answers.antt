use Rattle.std.proofs.Common.{◌∙◌, sym}
use Rattle.gl_logic.proofs.Elements.{list-tail}
use Rattle.gl_logic.proofs.tree.Tree.tail.Goals as goal

pub returns-in-List : goal.returns-in-List
returns-in-List c = c.deref.ensures ∙ sym (list-tail _ _ _ _ c.in-List.is c.self.view_is c.self.invariant)
