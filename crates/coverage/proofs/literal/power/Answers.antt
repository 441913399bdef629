use Rattle.coverage.proofs.Widths.{shifted_one}
use Rattle.coverage.proofs.literal.power.Goals as goal

pub returns : goal.returns
returns c = shifted_one c.args.places c.requires
