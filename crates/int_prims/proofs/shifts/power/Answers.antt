use Rattle.int_prims.proofs.Powers.{shifted_one}
use Rattle.int_prims.proofs.shifts.power.Goals as goal

pub returns : goal.returns
returns c = shifted_one c.args.places c.requires
