use Rattle.coverage.proofs.Rest.{name_hit, name_miss}
use Rattle.coverage.proofs.free.has_name.Goals as goal

pub returns-then-at-variable : goal.returns-then-at-variable
returns-then-at-variable c =
    name_hit c.args.variable.number c.args.names.now c.loop-i.i c.at.result.now.number _ c.at.ensures c.loop-i.invariant c.if-at-variable.true

pub loop-i-preserved : goal.loop-i-preserved
loop-i-preserved c =
    name_miss c.args.variable.number c.args.names.now c.loop-i.i c.at.result.now.number _ c.at.ensures c.loop-i.invariant c.if-at-variable.false
