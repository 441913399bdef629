use Rattle.std.proofs.Common.{rules, ◌∙◌, ap, ◌++◌, ◌∷◌, [], not, eqb, ℕ}
use Rattle.book_state.proofs.Kept.{kept_more, left_more}
use Rattle.book_state.proofs.functions.without.Goals as goal
use Rattle.book_state.proofs.functions.without.Goals.{then-f-g+in_ok-push, else-f-g}

pub loop-i-preserved : goal.loop-i-preserved
loop-i-preserved c =
    let p = λ (g : ℕ). not (eqb c.args.f.number g) in
    elim c.if-f-g.branch [
      | then-f-g+in_ok-push w ↦ w.left-is ∙ (w.in_ok-push.ensures.ok ∙ (ap (λ fs. fs ++ c.at-g.result.now.number ∷ []) c.loop-i.invariant ∙ kept_more p c.args.functions.now c.loop-i.i c.at-g.result.now.number c.at-g.ensures (search rules)))
      | else-f-g w ↦ w.left-is ∙ (c.loop-i.invariant ∙ left_more p c.args.functions.now c.loop-i.i c.at-g.result.now.number c.at-g.ensures (search rules))
    ]
