use Rattle.std.proofs.Common.{◌∙◌}
use Rattle.admission.proofs.KnownAt.{turned_any}
use Rattle.admission.proofs.part.binds.Goals as goal

pub returns : goal.returns
returns c = c.contains.ensures ∙ turned_any c.args.v.number c.args.names.now
