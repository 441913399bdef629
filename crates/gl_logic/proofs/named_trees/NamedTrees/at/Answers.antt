use Rattle.gl_logic.proofs.NamedTrees.{tree_at}
use Rattle.gl_logic.proofs.named_trees.NamedTrees.at.Goals as goal

pub returns : goal.returns
returns c = tree_at c.self.inside.entries.items c.args.self.now c.args.i c.index-entry.result.now c.self.view_is c.requires c.index-entry.ensures
