use Rattle.std.proofs.Common.{◌∙◌, ◌+◌, ◌≤◌, sym, refl, subst, ℕ, List, length, Option, rules}
use Rattle.book_shelf.specs.declared.finish.Finish.TheVariants.{Clean}
use Rattle.gl_decide.specs.Bounds.{bounds_of}
use Rattle.gl_book.specs.LastSteps.{IsRefusedForm, IsTaken, StepsTo}
use Rattle.gl_book.specs.declared.last_step.Kept.{Kept}
use Rattle.gl_book.specs.declared.last_step.Step.{Step}
use Rattle.gl_book.specs.declared.last_step.Step.TheVariants as step
use Rattle.gl_book.proofs.Lasts.{HasCome, begins, comes_to, refuses, takes_other, takes_theorem}
use Rattle.gl_book.proofs.last.last_kept.Goals as goal
use Rattle.gl_book.proofs.last.last_kept.Goals.{in-Theorem, in-Other}

pub loop-i-init : goal.loop-i-init
loop-i-init c = record { texts = refl; come = begins c.args.texts.now (bounds_of c.args.limits.now) c.args.state.now c.args.forms.now Clean c.requires.can_go_on }

pub returns-in-Refused-clause-walked : goal.returns-in-Refused-clause-walked
returns-in-Refused-clause-walked c =
    let names = c.args.texts.now in
    let bounds = bounds_of c.args.limits.now in
    let form = c.at.result.now in
    let s = c.loop-i.state in
    let t = c.take_form.new.state in
    let steps = subst (λ (x : Step). StepsTo c.loop-i.texts bounds form s t x) c.in-Refused.is c.in-Ok.ensures.steps in
    let refused = subst (λ (ns : List (List ℕ)). IsRefusedForm ns bounds form s) c.loop-i.invariant.texts steps in
    refuses names bounds c.args.state.now c.args.forms.now Clean c.loop-i.i s t c.loop-i.last c.loop-i.invariant.come form c.at.ensures refused t.world

pub loop-i-preserved : goal.loop-i-preserved
loop-i-preserved c =
    let names = c.args.texts.now in
    let bounds = bounds_of c.args.limits.now in
    let first = c.args.state.now in
    let forms = c.args.forms.now in
    let form = c.at.result.now in
    let i = c.loop-i.i in
    let s = c.loop-i.state in
    let t = c.take_form.new.state in
    let come = c.loop-i.invariant.come in
    let same = c.take_form.ensures.texts ∙ c.loop-i.invariant.texts in
    elim c.match-step.branch [
      | in-Theorem w ↦
          let taken = subst (λ (x : Step). StepsTo c.loop-i.texts bounds form s t x) w.in-Theorem.is c.in-Ok.ensures.steps in
          let here = subst (λ (ns : List (List ℕ)). IsTaken ns bounds form s t (step.Theorem w.in-Theorem.kept)) c.loop-i.invariant.texts taken in
          record {
            texts = same;
            come = subst (λ (o : Option Kept). HasCome names bounds first forms Clean (i + 1) t o) (sym (w.last-is ∙ w.replace.ensures.after)) (takes_theorem names bounds first forms Clean i s t c.loop-i.last come form c.at.ensures w.in-Theorem.kept here);
          }
      | in-Other w ↦
          let taken = subst (λ (x : Step). StepsTo c.loop-i.texts bounds form s t x) w.in-Other.is c.in-Ok.ensures.steps in
          let here = subst (λ (ns : List (List ℕ)). IsTaken ns bounds form s t step.Other) c.loop-i.invariant.texts taken in
          record {
            texts = same;
            come = subst (λ (o : Option Kept). HasCome names bounds first forms Clean (i + 1) t o) (sym w.last-is) (takes_other names bounds first forms Clean i s t c.loop-i.last come form c.at.ensures here);
          }
    ]

pub returns-clause-walked : goal.returns-clause-walked
returns-clause-walked c =
    let forms = c.args.forms.now in
    let all : length forms ≤ c.loop-i.i = search rules in
    comes_to c.args.texts.now (bounds_of c.args.limits.now) c.args.state.now forms c.loop-i.i c.loop-i.state all c.loop-i.last c.loop-i.invariant.come
