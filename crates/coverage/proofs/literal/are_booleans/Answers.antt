use Rattle.coverage.specs.Rows.{is_boolean}
use Rattle.coverage.proofs.Found.{all_missed, all_met}
use Rattle.coverage.proofs.literal.are_booleans.Goals as goal

pub returns-then-not-is_boolean : goal.returns-then-not-is_boolean
returns-then-not-is_boolean c =
    all_missed is_boolean c.args.object.now c.elements-element-items.result.now c.loop-element.element-index c.element-item.result c.elements-element-items.ensures c.loop-element-test.true c.element-item.is c.if-not-is_boolean.ensures c.loop-element.invariant

pub returns : goal.returns
returns c =
    all_met is_boolean c.args.object.now c.elements-element-items.result.now c.loop-element.element-index c.tail.result.now c.is_nil.result c.elements-element-items.ensures c.loop-element-test.false c.loop-element.invariant c.tail.ensures c.is_nil.ensures.nil.0 c.is_nil.ensures.nil.1
