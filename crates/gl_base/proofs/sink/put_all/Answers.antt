use Rattle.std.proofs.Common.{rules}
use Rattle.gl_base.proofs.Growth.{grows-more}
use Rattle.gl_base.proofs.sink.put_all.Goals as goal

pub loop-start-preserved : goal.loop-start-preserved
loop-start-preserved g c =
    (search rules, search rules, grows-more _ _ _ c.args.piece.now c.loop-start.start c.in_ok-start.field-0 c.loop-start.invariant.2 c.in_ok-start.ensures.bytes)
