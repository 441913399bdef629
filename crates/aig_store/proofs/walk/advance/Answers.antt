use Rattle.std.proofs.Common.{◌≡◌, ◌<◌, arith, length}
use Rattle.gl_logic.specs.Assignments.{value_at}
use Rattle.aig_store.specs.Walks.{bottom_of, top_of}
use Rattle.aig_store.proofs.Walks.{read-top, walk-push, popped-falls}
use Rattle.aig_store.proofs.walk.advance.Goals as goal

pub returns-in-Value-clause-falls : goal.returns-in-Value-clause-falls
returns-in-Value-clause-falls c =
    let stack = c.args.stack.now.items in
    let top : c.index-number.result.now ≡ top_of stack = read-top stack c.len.result c.index-number.result.now (omega arith) c.requires.some c.index-number.ensures in
    popped-falls c.args.nodes.now (value_at c.args.a.now) c.args.call (bottom_of stack) c.args.marks.now.items stack c.pop-top.new.self.items _ c.index-number.result.now c.in-Value.value c.requires.walk c.requires.some c.requires.small top (omega arith) c.pop-top.ensures.rest c.in-Value.ensures

pub returns-in-Below-clause-walk : goal.returns-in-Below-clause-walk
returns-in-Below-clause-walk c =
    let stack = c.args.stack.now.items in
    let top : c.index-number.result.now ≡ top_of stack = read-top stack c.len.result c.index-number.result.now (omega arith) c.requires.some c.index-number.ensures in
    let next = rw c.deref.ensures.value at c.in-Below.ensures in
    let smaller : c.in-Below.below < top_of stack = omega (arith, next.0, top) in
    rw c.push_reserved.ensures.items (walk-push c.args.nodes.now (value_at c.args.a.now) c.args.call (bottom_of stack) c.args.marks.now.items stack c.in-Below.below c.requires.walk c.requires.some smaller next.1)
