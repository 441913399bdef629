use Rattle.std.proofs.Common.{◌≡◌, ◌∙◌, sym, refl, ◌++◌, ◌∷◌, [], cond, eqb, get_or, ℕ, Bool}
use Rattle.std.specs.List.{filter}
use Rattle.shape_spec.proofs.ItemSteps.{filter_more}
use Rattle.shape_spec.proofs.item_form.places_of.Goals as goal

filter_one : (p : ℕ → Bool) (k : ℕ) → filter p (k ∷ []) ≡ cond (p k) (k ∷ []) []
filter_one p k = refl

pub loop-k-preserved : goal.loop-k-preserved
loop-k-preserved c =
    let p : ℕ → Bool = λ k. eqb (get_or c.args.slots.now k 0) c.args.name.number in
    c.in_ok-add_place.ensures ∙ ((λ i. c.loop-k.invariant i ++ sym (filter_one p c.loop-k.k) i) ∙ sym (filter_more p c.loop-k.k))
