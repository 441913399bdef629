use Rattle.std.proofs.Common.{map, arith}
use Rattle.shape_spec.specs.ShapeOf.{shape_of}
use Rattle.coverage.proofs.Spined.{one_more_in_turn}
use Rattle.coverage.proofs.spine.add_in_turn.Goals as goal

pub loop-left-preserved : goal.loop-left-preserved
loop-left-preserved c = record {
  within = omega arith;
  done = one_more_in_turn c.loop-left.all.items c.push.new.self.items (map (λ s. shape_of s.now) c.args.all.now.items) c.args.shapes.now c.loop-left.left _ c.loop-left-test.true c.loop-left.invariant.within c.in_ok-push.ensures.items c.index-shapes-left.is c.loop-left.invariant.done;
}
