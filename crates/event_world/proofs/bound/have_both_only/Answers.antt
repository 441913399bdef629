use Rattle.std.proofs.Common.{◌≡◌, ◌∙◌, ap, sym, true, ◌&&◌, List, ℕ}
use Rattle.std.proofs.lemmas.Result.{IfOk-weaker}
use Rattle.gl_logic.specs.TermOf.{term_of}
use Rattle.gl_translate.specs.Translation.{are_in}
use Rattle.event_world.specs.TheoremMeant.{has_only}
use Rattle.event_world.proofs.bound.have_both_only.Goals as goal

pub returns : goal.returns
returns c =
    let vs = c.args.bound.now in
    let a = term_of c.args.first.now in
    let b = term_of c.args.second.now in
    let first : has_only (are_in vs) a ≡ true = sym c.in_ok-has_only.ensures.told ∙ c.if-not-branch.false in
    let second : has_only (are_in c.has_only.new.bound) b ≡ has_only (are_in vs) b = ap (λ (l : List ℕ). has_only (are_in l) b) c.in_ok-has_only.ensures.same in
    IfOk-weaker c.has_only-2.result _ _ (λ t h. h ∙ (second ∙ sym (ap (λ z. z && has_only (are_in vs) b) first))) c.has_only-2.ensures.told
