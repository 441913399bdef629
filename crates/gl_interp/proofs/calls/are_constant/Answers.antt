use Rattle.std.proofs.Common.{◌∙◌, sym, arith}
use Rattle.sym_objects.specs.Seen.{IsConstant}
use Rattle.gl_interp.proofs.AllTaken.{all_done, all_next}
use Rattle.gl_interp.proofs.calls.are_constant.Goals as goal

pub loop-x-preserved : goal.loop-x-preserved
loop-x-preserved g c = all_next (IsConstant g.B.Meaning c.args.objs.now) c.args.xs.now c.loop-x.x-index _ c.loop-x-test.true c.loop-x.invariant (sym c.is_constant.ensures ∙ c.if-not-is_constant.false)

pub returns : goal.returns
returns g c _ = all_done (IsConstant g.B.Meaning c.args.objs.now) c.args.xs.now c.loop-x.x-index (omega (arith, c.loop-x-test.false)) c.loop-x.invariant
