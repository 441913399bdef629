use Rattle.std.proofs.Common.{◌∙◌, sym}
use Rattle.gl_logic.specs.TermOf.{term_of}
use Rattle.shape_spec.specs.ShapeOf.{shape_of}
use Rattle.coverage.proofs.Rest.{uncovered_hit, uncovered_miss}
use Rattle.coverage.proofs.judgement.covers.Goals as goal

pub returns-then-branch : goal.returns-then-branch
returns-then-branch c =
    uncovered_hit (term_of c.args.hyp.now) (term_of c.args.concl.now) c.args.bindings.now c.loop-i.i c.variable-variable.result.number (shape_of c.shape.result.now) _
    c.variable-variable.ensures c.shape.ensures (sym c.if-branch.true ∙ c.in_ok-lacks_cover.ensures) c.loop-i.invariant.rest

pub loop-i-preserved : goal.loop-i-preserved
loop-i-preserved c = record {
  rest = uncovered_miss (term_of c.args.hyp.now) (term_of c.args.concl.now) c.args.bindings.now c.loop-i.i c.variable-variable.result.number (shape_of c.shape.result.now) _
      c.variable-variable.ensures c.shape.ensures (sym c.if-branch.false ∙ c.in_ok-lacks_cover.ensures) c.loop-i.invariant.rest;
}
