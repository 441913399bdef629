use Rattle.std.proofs.Common.{◌<◌, ◌≤◌, length, rules}
use Rattle.admission.proofs.ActualTerms.{actual_hit, actual_miss, actual_past}
use Rattle.admission.proofs.actuals.actual.Goals as goal

pub returns-then-i-actuals : goal.returns-then-i-actuals
returns-then-i-actuals c =
    let past : length c.args.actuals.now ≤ c.loop-i.i = search rules in
    actual_past c.args.formals.now c.args.actuals.now c.loop-i.i c.args.w.number _ past c.loop-i.invariant

pub returns-then-at-w : goal.returns-then-at-w
returns-then-at-w c =
    let within : c.loop-i.i < length c.args.actuals.now = search rules in
    actual_hit c.args.formals.now c.args.actuals.now c.loop-i.i c.args.w.number c.at.result.now.number c.index-actuals-i.result _ c.at.ensures within c.if-at-w.true c.index-actuals-i.is c.loop-i.invariant

pub loop-i-preserved : goal.loop-i-preserved
loop-i-preserved c =
    let within : c.loop-i.i < length c.args.actuals.now = search rules in
    actual_miss c.args.formals.now c.args.actuals.now c.loop-i.i c.args.w.number c.at.result.now.number _ c.at.ensures within c.if-at-w.false c.loop-i.invariant
