use Rattle.std.proofs.Common.{◌∙◌, sym}
use Rattle.gl_logic.proofs.Elements.{list-elements}
use Rattle.gl_logic.proofs.tree.Tree.elements.Goals as goal

pub returns-in-List : goal.returns-in-List
returns-in-List c = c.as_slice.ensures.value ∙ sym (list-elements _ _ _ _ c.in-List.is c.self.view_is c.self.invariant)
