use Rattle.std.proofs.Common.{◌≡◌, ◌∙◌, ap, ℕ, Bool, ◌&&◌}
use Rattle.std.proofs.lemmas.Result.{IfOk-weaker}
use Rattle.gl_logic.specs.TermOf.{term_of}
use Rattle.gl_translate.specs.Translation.{are_in}
use Rattle.shape_spec.specs.Indices.{variables_of}
use Rattle.event_world.specs.TheoremMeant.{has_only}
use Rattle.event_world.proofs.bound.binds.Goals as goal

pub returns : goal.returns
returns c =
    let a = term_of c.args.hyp.now in
    let b = term_of c.args.concl.now in
    let fn : are_in c.in_ok-bound.bound ≡ are_in (variables_of c.args.bindings.now) = λ i v. c.in_ok-bound.ensures v i in
    IfOk-weaker c.have_both_only.result _ _ (λ t h. h ∙ ap (λ (f : ℕ → Bool). has_only f a && has_only f b) fn) c.have_both_only.ensures
