use Rattle.std.proofs.Common.{◌∙◌, ◌+◌, subst, arith}
use Rattle.hons_arena.specs.Held.{HasNoRoomFor, Held}
use Rattle.shape_spec.specs.InputMeant.{object_meant}
use Rattle.shape_spec.specs.ShapeOf.{shape_of}
use Rattle.gl_interp.specs.declared.constants.PlaceFault.{PlaceFault}
use Rattle.gl_interp.specs.declared.constants.PlaceFault.TheVariants as fault
use Rattle.gl_interp.specs.Shapes.{HasShapeCause, holds_at}
use Rattle.gl_interp.proofs.InputParts.{among_at, apart_at, input_crowded, input_more, shape_at}
use Rattle.gl_interp.proofs.Machines.{rests_then}
use Rattle.gl_interp.proofs.inputs.symbolic_over.Goals as goal

pub object_over-requires-clause-shape : goal.object_over-requires-clause-shape
object_over-requires-clause-shape g c = shape_at c.args.b.now c.loop-i.i (shape_of c.shape.result.now) c.shape.ensures c.bit_count.ensures.proper.shapes

pub object_over-requires-clause-among : goal.object_over-requires-clause-among
object_over-requires-clause-among g c = among_at c.args.b.now c.loop-i.i (shape_of c.shape.result.now) c.shape.ensures

pub object_over-requires-clause-apart : goal.object_over-requires-clause-apart
object_over-requires-clause-apart g c = apart_at c.args.b.now c.loop-i.i (shape_of c.shape.result.now) c.shape.ensures c.bit_count.ensures.proper.indices

pub returns-in_err-push-in-Ok-clause-rests : goal.returns-in_err-push-in-Ok-clause-rests
returns-in_err-push-in-Ok-clause-rests g c = rests_then c.args.machine.now c.loop-i.machine _ c.loop-i.invariant.rests c.in-Ok.ensures.rests

pub returns-in-Err-Cells-clause-cause : goal.returns-in-Err-Cells-clause-cause
returns-in-Err-Cells-clause-cause g c =
    let m = g.B.Meaning in
    let inv = c.loop-i.invariant in
    let e = c.in-Err-Cells.ensures in
    let b = c.args.b.now in
    let s = shape_of c.shape.result.now in
    let found = c.object_over.new.found in
    let cause : HasShapeCause m c.object_over.new.objs c.loop-i.machine b s found fault.Cells = subst (λ (f : PlaceFault). HasShapeCause m c.object_over.new.objs c.loop-i.machine b s found f) c.in-Err-Cells.field-0-is e.cause in
    let room = subst (λ (h : Held). HasNoRoomFor h (object_meant (holds_at b found) s)) inv.rests.arena cause in
    (e.found ∙ inv.found, input_crowded b c.args.machine.now found c.loop-i.i s c.shape.ensures room c.mark-held.ensures.whole.different)

pub returns-in-Err-Cells-clause-rests : goal.returns-in-Err-Cells-clause-rests
returns-in-Err-Cells-clause-rests g c = rests_then c.args.machine.now c.loop-i.machine _ c.loop-i.invariant.rests c.in-Err-Cells.ensures.rests

pub returns-in-Err-Full-clause-rests : goal.returns-in-Err-Full-clause-rests
returns-in-Err-Full-clause-rests g c = rests_then c.args.machine.now c.loop-i.machine _ c.loop-i.invariant.rests c.in-Err-Full.ensures.rests

pub returns-in-Err-Memory-clause-rests : goal.returns-in-Err-Memory-clause-rests
returns-in-Err-Memory-clause-rests g c = rests_then c.args.machine.now c.loop-i.machine _ c.loop-i.invariant.rests c.in-Err-Memory.ensures.rests

pub loop-i-preserved : goal.loop-i-preserved
loop-i-preserved g c =
    let inv = c.loop-i.invariant in
    let e = c.in-Ok.ensures in
    let i = c.loop-i.i in
    record {
      input = input_more g.B.Meaning c.args.objs.now c.args.b.now c.args.edges.now c.loop-i.objs c.object_over.new.objs c.loop-i.env c.push.new.self i (i + 1) c.variable.result.number (shape_of c.shape.result.now) c.in-Ok.x inv.input (omega arith) e.keeps e.object c.in_ok-push-in-Ok.ensures.ok c.variable.ensures c.shape.ensures c.requires.edges;
      found = e.found ∙ inv.found;
      rests = rests_then c.args.machine.now c.loop-i.machine c.object_over.new.machine inv.rests e.rests;
    }
