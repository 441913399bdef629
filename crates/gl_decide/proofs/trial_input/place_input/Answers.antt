use Rattle.std.proofs.Common.{◌≡◌, ◌∙◌, ap, sym, refl, subst, ℕ, ◌++◌, ◌∷◌, [], arith, rules}
use Rattle.std.specs.List.{All}
use Rattle.std.proofs.lemmas.List.Elements.{All-append}
use Rattle.gl_logic.specs.Object.{Object}
use Rattle.lisp_eval.specs.Answers.{IsLiveBinding}
use Rattle.lisp_eval.specs.States.{env_of}
use Rattle.lisp_eval.specs.declared.frame.Binding.{Binding}
use Rattle.gl_decide.proofs.Placing.{adds_more, live_more, one_live, stands_more, crowded}
use Rattle.gl_decide.proofs.Truths.{keeps_then}
use Rattle.gl_decide.proofs.trial_input.place_input.Goals as goal

pub loop-i-preserved : goal.loop-i-preserved
loop-i-preserved c =
    let start = c.args.machine.now.arena.objects in
    let old = c.loop-i.machine.arena.objects in
    let new = c.input.new.self.arena.objects in
    let p : ℕ × Object = (c.at.result.0.number, c.at.result.1.now) in
    let b : Binding = record { name = c.at.result.0; value = c.in-Ok.id } in
    let pushed : c.push.new.self ≡ c.loop-i.env ++ b ∷ [] = c.in-Ok-push.ensures.ok in
    let id = c.in-Ok.ensures.id in
    record {
      live = subst (All (IsLiveBinding new)) (sym pushed) (All-append (IsLiveBinding new) c.loop-i.env (b ∷ []) (live_more p.1 old new c.loop-i.env c.input.ensures.objects c.loop-i.invariant.live) (one_live new b id.0));
      stands = ap (env_of new) pushed ∙ stands_more c.args.input.now old new c.loop-i.env c.loop-i.i p b c.at.ensures c.input.ensures.objects c.loop-i.invariant.live c.loop-i.invariant.stands refl id.1;
      adds = adds_more c.args.input.now start old new c.loop-i.i p c.at.ensures c.loop-i.invariant.adds c.input.ensures.objects;
      whole = c.input.ensures.whole;
      settings = keeps_then c.args.machine.now c.loop-i.machine c.input.new.self c.loop-i.invariant.settings c.input.ensures.settings;
      memos = c.input.ensures.memos ∙ c.loop-i.invariant.memos;
      fits = λ w h. c.input.ensures.fits w (c.loop-i.invariant.fits w h);
    }

pub returns-in_default-clause-err : goal.returns-in_default-clause-err
returns-in_default-clause-err c =
    let input = c.args.input.now in
    let old = c.args.machine.now.arena.objects in
    let p : ℕ × Object = (c.at.result.0.number, c.at.result.1.now) in
    let room = c.in_default.ensures.cells.0 (c.in_default.ensures.only (search rules)) in
    let many = crowded input old c.loop-i.machine.arena c.loop-i.i p c.at.ensures c.loop-i.invariant.whole.different c.loop-i.invariant.adds room in
    record {
      only = λ n. refl;
      crowded = λ e. omega (arith, many, c.loop-i.invariant.settings.limit);
      adds = adds_more input old c.loop-i.machine.arena.objects c.input.new.self.arena.objects c.loop-i.i p c.at.ensures c.loop-i.invariant.adds c.input.ensures.objects;
    }

pub returns-in_default-clause-fits : goal.returns-in_default-clause-fits
returns-in_default-clause-fits c = λ w h. c.input.ensures.fits w (c.loop-i.invariant.fits w h)

pub returns-in_default-push-clause-err : goal.returns-in_default-push-clause-err
returns-in_default-push-clause-err c =
    let old = c.args.machine.now.arena.objects in
    let p : ℕ × Object = (c.at.result.0.number, c.at.result.1.now) in
    record {
      only = λ n. absurd (n refl);
      crowded = λ e. absurd cc;
      adds = adds_more c.args.input.now old c.loop-i.machine.arena.objects c.input.new.self.arena.objects c.loop-i.i p c.at.ensures c.loop-i.invariant.adds c.input.ensures.objects;
    }

pub returns-in_default-push-clause-fits : goal.returns-in_default-push-clause-fits
returns-in_default-push-clause-fits c = λ w h. c.input.ensures.fits w (c.loop-i.invariant.fits w h)
