use Rattle.std.proofs.Common.{◌∙◌, ap, sym, ◌++◌, map, List, ℕ, arith}
use Rattle.shape_spec.specs.ItemsMeant.{slots_at}
use Rattle.shape_spec.specs.Gives.{slotted_of}
use Rattle.shape_spec.proofs.ItemSteps.{turn_more}
use Rattle.std.proofs.lemmas.Grind.{common_steps}
use Rattle.shape_spec.proofs.item_form.mixed.Goals as goal

pub loop-k-preserved : goal.loop-k-preserved
loop-k-preserved c =
    let f = slots_at (map slotted_of c.args.all.now) in
    c.in_ok-add_slots.ensures ∙ (ap (λ (is : List ℕ). is ++ f c.loop-k.k) c.loop-k.invariant ∙ sym (turn_more f c.loop-k.k))

pub returns : goal.returns
returns c = grind (arith, common_steps)
