use Rattle.std.proofs.Common.{◌≡◌, ◌∙◌, sym, subst, ℕ, ◌+◌, ◌≤◌, true, Bool, arith}
use Rattle.std.specs.Prelude.{◌↔◌}
use Rattle.shape_spec.specs.TheoremSeen.{theorem_seen}
use Rattle.gl_decide.specs.TheoremAt.{input_at}
use Rattle.gl_decide.specs.Scans.{NoneRefutes, SomeMeets}
use Rattle.gl_decide.specs.Verdicts.{Refutes}
use Rattle.gl_decide.specs.Trials.{IsProperTrial}
use Rattle.gl_decide.specs.declared.trial.Trial.TheVariants as trial
use Rattle.gl_decide.proofs.Ranges.{unmet, unmet_passes, met_passes, none_more, some_more, some_stays}
use Rattle.gl_decide.proofs.Truths.{ready_still}
use Rattle.gl_decide.proofs.pieces.scan_with.Goals as goal
use Rattle.gl_decide.proofs.pieces.scan_with.Goals.{in-Unmet, in-Passes}

pub loop-number-preserved : goal.loop-number-preserved
loop-number-preserved c =
    let w = c.args.world.now in
    let thm = theorem_seen c.args.thm.now in
    let first = c.args.first in
    let n = c.loop-number.number in
    let env = input_at thm n in
    let steps = c.loop-number.machine.steps in
    let cells = c.loop-number.machine.arena.limit in
    let rests = c.tried.ensures.rests in
    let ready = ready_still w thm c.loop-number.machine c.tried.new.machine c.loop-number.invariant.ready rests in
    let after : first ≤ n = omega (arith, c.loop-number.auto.number, c.requires.some) in
    elim c.match-tried.branch [
      | in-Unmet v ↦
          let p : IsProperTrial w steps cells thm env trial.Unmet = subst (λ (k : ℕ). IsProperTrial w steps cells thm (input_at thm k) trial.Unmet) c.from.ensures v.in-Unmet.ensures.trial in
          record {
            ready = ready;
            limit = rests.settings.limit ∙ c.loop-number.invariant.limit;
            steps = rests.settings.steps ∙ c.loop-number.invariant.steps;
            none = none_more w thm first n c.loop-number.invariant.none (unmet_passes w thm env p);
            some = subst (λ (b : Bool). (b ≡ true) ↔ SomeMeets w thm first (n + 1)) (sym v.met-is) (some_stays w thm c.loop-number.met first n (unmet w thm env p) c.loop-number.invariant.some);
          }
      | in-Passes v ↦
          let p : IsProperTrial w steps cells thm env trial.Passes = subst (λ (k : ℕ). IsProperTrial w steps cells thm (input_at thm k) trial.Passes) c.from.ensures v.in-Passes.ensures.trial in
          record {
            ready = ready;
            limit = rests.settings.limit ∙ c.loop-number.invariant.limit;
            steps = rests.settings.steps ∙ c.loop-number.invariant.steps;
            none = none_more w thm first n c.loop-number.invariant.none (met_passes w thm env p.1);
            some = subst (λ (b : Bool). (b ≡ true) ↔ SomeMeets w thm first (n + 1)) (sym v.met-is) (some_more w thm first n after p.0);
          }
    ]

pub returns-in-Refutes : goal.returns-in-Refutes
returns-in-Refutes c = (omega (arith, c.loop-number.auto.number, c.requires.some), c.loop-number-test.true, subst (λ (k : ℕ). Refutes c.args.world.now (theorem_seen c.args.thm.now) (input_at (theorem_seen c.args.thm.now) k)) c.from.ensures c.in-Refutes.ensures.trial, c.loop-number.invariant.none)

pub returns : goal.returns
returns c =
    let w = c.args.world.now in
    let thm = theorem_seen c.args.thm.now in
    let all : c.loop-number.number ≡ c.args.end = omega (arith, c.loop-number-test.false, c.loop-number.auto.number-end, c.requires.some) in (
      subst (NoneRefutes w thm c.args.first) all c.loop-number.invariant.none,
      subst (λ (e : ℕ). (c.loop-number.met ≡ true) ↔ SomeMeets w thm c.args.first e) all c.loop-number.invariant.some,
    )
