use Rattle.gl_logic.proofs.MoreDefinitions.{walk_kept}
use Rattle.gl_logic.proofs.extension_laws.more_definitions_keep.Goals as goal

pub returns : goal.returns
returns c = walk_kept
