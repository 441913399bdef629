use Rattle.std.proofs.Common.{◌≡◌, ◌∙◌, ap, sym, false, length, Bool, arith}
use Rattle.std.specs.Prelude.{◌==◌}
use Rattle.std.proofs.lemmas.Bool.{ne_eqb}
use Rattle.std.proofs.lemmas.List.Folds.{list_all_at, list_all-map}
use Rattle.shape_spec.specs.ItemsMeant.{Slotted}
use Rattle.shape_spec.specs.Gives.{slotted_of}
use Rattle.shape_spec.specs.declared.item_form.Items.{Items}
use Rattle.std.proofs.lemmas.Grind.{common_steps}
use Rattle.shape_spec.proofs.item_form.have_count.Goals as goal

pub returns-then-len-count : goal.returns-then-len-count
returns-then-len-count c =
    let p : Items → Bool = λ i. length (slotted_of i).slots == c.args.count in
    let x = c.item-item.result in
    let other : p x ≡ false = ne_eqb (length x.slots.items) c.args.count (λ e. c.if-len-count.true (c.len.ensures ∙ (x.slots.ok.0 ∙ e))) in
    sym (list_all-map (λ (i : Slotted). length i.slots == c.args.count) slotted_of c.args.all.now ∙ list_all_at p c.args.all.now c.loop-item.item-index x c.loop-item-test.true (ap p (sym c.item-item.is) ∙ other))

pub loop-item-preserved : goal.loop-item-preserved
loop-item-preserved c = grind (arith, common_steps)
