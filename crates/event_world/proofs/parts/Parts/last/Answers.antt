use Rattle.std.proofs.Common.{◌∙◌, ap}
use Rattle.event_world.specs.PartsOf.{split_last}
use Rattle.event_world.proofs.Cursors.{last_of}
use Rattle.event_world.proofs.parts.Parts.last.Goals as goal

pub returns-in-len1-up : goal.returns-in-len1-up
returns-in-len1-up c = last_of c.self.inside.from_last.now c.last-item.result c.in-len1-up.len_at_least c.last-item.is ∙ ap split_last c.self.view_is
