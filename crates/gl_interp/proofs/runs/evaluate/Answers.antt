use Rattle.std.proofs.Common.{sym, subst, false}
use Rattle.gl_logic.specs.Assignments.{value_at}
use Rattle.sym_prims.specs.Applying.{Leaves}
use Rattle.sym_prims.proofs.Leaving.{leaves_of}
use Rattle.gl_interp.specs.Calls.{HasEvalCause, values_under}
use Rattle.gl_interp.proofs.RunCauses.{cause_eval, cause_full, on_path}
use Rattle.gl_interp.proofs.runs.evaluate.Goals as goal

pub returns-in-Err-Full-clause-cause : goal.returns-in-Err-Full-clause-cause
returns-in-Err-Full-clause-cause g c =
    cause_full g.B.Meaning c.call.new.objs c.args.world.now c.args.machine.now c.args.f.number (λ a. values_under g.B.Meaning c.args.objs.now c.args.args.now a) c.call.result c.call.ensures.cause (λ k. false) c.in-Err-Full.field-0 c.in-Err-Full.is c.in-Err-Full.field-0-is

pub returns-in-Width-clause-cause : goal.returns-in-Width-clause-cause
returns-in-Width-clause-cause g c =
    let old = c.args.objs.now in
    let found = c.in_ok-found-in-Err-Eval.found in
    let kept : Leaves g.B.Meaning old c.known.new.objs = subst (λ s. Leaves g.B.Meaning old s) (sym c.in_ok-found-in-Err-Eval.ensures.same) (leaves_of g.B.Meaning old c.call.new.objs c.call.ensures.keeps) in (
      on_path g.B.Meaning old c.known.new.objs c.args.path.now found c.requires.witnessed kept c.requires.edge c.in_ok-found-in-Err-Eval.ensures.copy,
      subst (λ e. HasEvalCause c.args.world.now c.args.machine.now c.args.f.number (values_under g.B.Meaning old c.args.args.now (value_at found)) e) c.in-Width.is
          (cause_eval g.B.Meaning c.call.new.objs c.args.world.now c.args.machine.now c.args.f.number (λ a. values_under g.B.Meaning old c.args.args.now a) c.call.result c.call.ensures.cause (value_at found) c.in-Err-Eval.field-0 c.in-Err-Eval.fault c.in-Err-Eval.is c.in-Err-Eval.field-0-is),
    )

pub returns-in-Steps-clause-cause : goal.returns-in-Steps-clause-cause
returns-in-Steps-clause-cause g c =
    let old = c.args.objs.now in
    let found = c.in_ok-found-in-Err-Eval.found in
    let kept : Leaves g.B.Meaning old c.known.new.objs = subst (λ s. Leaves g.B.Meaning old s) (sym c.in_ok-found-in-Err-Eval.ensures.same) (leaves_of g.B.Meaning old c.call.new.objs c.call.ensures.keeps) in (
      on_path g.B.Meaning old c.known.new.objs c.args.path.now found c.requires.witnessed kept c.requires.edge c.in_ok-found-in-Err-Eval.ensures.copy,
      subst (λ e. HasEvalCause c.args.world.now c.args.machine.now c.args.f.number (values_under g.B.Meaning old c.args.args.now (value_at found)) e) c.in-Steps.is
          (cause_eval g.B.Meaning c.call.new.objs c.args.world.now c.args.machine.now c.args.f.number (λ a. values_under g.B.Meaning old c.args.args.now a) c.call.result c.call.ensures.cause (value_at found) c.in-Err-Eval.field-0 c.in-Err-Eval.fault c.in-Err-Eval.is c.in-Err-Eval.field-0-is),
    )

pub returns-in-Cells-clause-cause : goal.returns-in-Cells-clause-cause
returns-in-Cells-clause-cause g c =
    let old = c.args.objs.now in
    let found = c.in_ok-found-in-Err-Eval.found in
    let kept : Leaves g.B.Meaning old c.known.new.objs = subst (λ s. Leaves g.B.Meaning old s) (sym c.in_ok-found-in-Err-Eval.ensures.same) (leaves_of g.B.Meaning old c.call.new.objs c.call.ensures.keeps) in (
      on_path g.B.Meaning old c.known.new.objs c.args.path.now found c.requires.witnessed kept c.requires.edge c.in_ok-found-in-Err-Eval.ensures.copy,
      subst (λ e. HasEvalCause c.args.world.now c.args.machine.now c.args.f.number (values_under g.B.Meaning old c.args.args.now (value_at found)) e) c.in-Cells.is
          (cause_eval g.B.Meaning c.call.new.objs c.args.world.now c.args.machine.now c.args.f.number (λ a. values_under g.B.Meaning old c.args.args.now a) c.call.result c.call.ensures.cause (value_at found) c.in-Err-Eval.field-0 c.in-Err-Eval.fault c.in-Err-Eval.is c.in-Err-Eval.field-0-is),
    )
