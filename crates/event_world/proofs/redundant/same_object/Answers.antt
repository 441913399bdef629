use Rattle.event_world.proofs.Forms.{same_told}
use Rattle.event_world.proofs.redundant.same_object.Goals as goal

pub returns : goal.returns
returns c = same_told c.same.result c.args.object.now c.args.other.now c.same.ensures
