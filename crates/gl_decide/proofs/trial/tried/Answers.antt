use Rattle.std.proofs.Common.{◌∙◌, sym, subst, ℕ, List}
use Rattle.gl_logic.specs.Object.{Object}
use Rattle.shape_spec.specs.TheoremSeen.{theorem_seen}
use Rattle.gl_decide.specs.TheoremAt.{input_at}
use Rattle.gl_decide.specs.Placed.{LacksCells}
use Rattle.gl_decide.specs.Trials.{HoldsInput}
use Rattle.gl_decide.proofs.Tried.{stopped_placing, trial_at, grown_at}
use Rattle.gl_decide.proofs.Truths.{keeps_then, rests, grown_by_input, holds_after}
use Rattle.gl_decide.proofs.trial.tried.Goals as goal

pub tried_on-trial-requires-clause-holds : goal.tried_on-trial-requires-clause-holds
tried_on-trial-requires-clause-holds c =
    let w = c.args.world.now in
    let thm = theorem_seen c.args.thm.now in
    let mid = c.place_input.new.machine in
    let places = c.in-Ok-place_input.ensures.ok in
    subst (λ (i : List (ℕ × Object)). HoldsInput w thm i mid) (sym places.stands)
    (holds_after w thm c.in-Ok.input c.args.machine.now mid c.requires.ready places.adds c.place_input.ensures.settings (c.place_input.ensures.fits w c.requires.ready.fits))

pub returns-in-Ok-place_input-clause-trial : goal.returns-in-Ok-place_input-clause-trial
returns-in-Ok-place_input-clause-trial c =
    let thm = theorem_seen c.args.thm.now in
    let settings = c.place_input.ensures.settings in
    trial_at c.args.world.now thm _ _ _ _ _ (input_at thm c.args.number) c.tried_on-trial.result settings.steps settings.limit (c.in-Ok-place_input.ensures.ok.stands ∙ c.in-Ok.ensures) c.tried_on-trial.ensures.trial

pub returns-in-Ok-place_input-clause-rests : goal.returns-in-Ok-place_input-clause-rests
returns-in-Ok-place_input-clause-rests c =
    let w = c.args.world.now in
    let old = c.args.machine.now in
    let mid = c.place_input.new.machine in
    let after = c.tried_on-trial.new.machine in
    let still = c.tried_on-trial.ensures.rests in
    let grown = grown_at old.arena.objects mid.arena.objects after.arena.objects (grown_by_input c.in-Ok.input old.arena.objects mid.arena.objects c.in-Ok-place_input.ensures.ok.adds) still.arena in
    rests w old after c.back.new.self c.mark-mark.result.count c.mark-mark.ensures.count grown c.back.ensures.objects (keeps_then old mid after c.place_input.ensures.settings still.settings) c.back.ensures.settings
    (c.back.ensures.fits w still.fits)

pub returns-clause-trial : goal.returns-clause-trial
returns-clause-trial c =
    let w = c.args.world.now in
    let thm = theorem_seen c.args.thm.now in
    let old = c.args.machine.now in
    let mid = c.place_input.new.machine in
    let lacks : LacksCells (input_at thm c.args.number) old mid c.in-Err.fault = subst (λ (i : List (ℕ × Object)). LacksCells i old mid c.in-Err.fault) c.in-Ok.ensures c.in-Err.ensures.err in
    stopped_placing w thm c.args.number old mid c.in-Err.fault c.count-count.ensures.total c.requires.hyp c.requires.ready lacks

pub returns-clause-rests : goal.returns-clause-rests
returns-clause-rests c =
    let w = c.args.world.now in
    let old = c.args.machine.now in
    let mid = c.place_input.new.machine in
    rests w old mid c.back-in-Err.new.self c.mark-mark.result.count c.mark-mark.ensures.count (grown_by_input c.in-Ok.input old.arena.objects mid.arena.objects c.in-Err.ensures.err.adds) c.back-in-Err.ensures.objects c.place_input.ensures.settings c.back-in-Err.ensures.settings
    (c.back-in-Err.ensures.fits w (c.place_input.ensures.fits w c.requires.ready.fits))
