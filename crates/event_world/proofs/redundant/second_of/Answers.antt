use Rattle.std.proofs.Common.{arith}
use Rattle.event_world.proofs.Forms.{second_at, second_none}
use Rattle.event_world.proofs.redundant.second_of.Goals as goal

pub returns-in-len2-up : goal.returns-in-len2-up
returns-in-len2-up c = second_at c.args.form.now c.second-item.result c.elements.result.now c.elements.ensures (c.in-len2-up.len_at_least) c.second-item.is

pub returns-in_default : goal.returns-in_default
returns-in_default c = second_none c.args.form.now c.elements.result.now c.elements.ensures (omega (arith, c.in_default.len_below))
