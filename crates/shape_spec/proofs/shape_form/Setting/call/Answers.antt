use Rattle.std.proofs.Common.{ap, sym}
use Rattle.shape_spec.specs.Gives.{taken, shape_left}
use Rattle.shape_spec.proofs.Fits.{gives_at}
use Rattle.shape_spec.proofs.ShapeSteps.{no_call, call_two, call_four}
use Rattle.shape_spec.proofs.shape_form.Setting.call.Goals as goal

pub returns : goal.returns
returns c = ap (taken c.args.left) (no_call c.args.self.now.texts.now c.args.parts.now c.if-parts-eq2.false c.if-parts-eq4.false)

pub returns-then-parts-eq2 : goal.returns-then-parts-eq2
returns-then-parts-eq2 c =
    gives_at shape_left c.boolean_call.result
    (ap (taken c.args.left) (sym (call_two c.args.self.now.texts.now c.args.parts.now c.index-parts-1.result c.index-parts-0.result c.if-parts-eq2.true c.index-parts-1.is c.index-parts-0.is)))
    c.boolean_call.ensures

pub returns-then-parts-eq4 : goal.returns-then-parts-eq4
returns-then-parts-eq4 c =
    gives_at shape_left c.integer_call.result
    (ap (taken c.args.left) (sym (call_four c.args.self.now.texts.now c.args.parts.now c.index-parts-3.result c.index-parts-2.result c.index-parts-1-then-parts-eq4.result c.index-parts-0-then-parts-eq4.result c.if-parts-eq4.true
    c.index-parts-3.is c.index-parts-2.is c.index-parts-1-then-parts-eq4.is c.index-parts-0-then-parts-eq4.is)))
    c.integer_call.ensures
