use Rattle.std.proofs.Common.{◌≡◌, ◌*◌, ◌+◌, ◌≤◌, map, reverse, length}
use denote.Param.Weighed.{most}
use Rattle.gl_logic.specs.Object.{nil}
use Rattle.gl_logic.specs.Lists.{size_of, conses}
use Rattle.gl_logic.specs.Wording.{all_meant}
use Rattle.shape_spec.specs.ItemsMeant.{item_meant}
use Rattle.shape_spec.specs.Gives.{slots_in, slotted_of}
use Rattle.shape_spec.proofs.InReverse.{left_of}
use Rattle.shape_spec.proofs.item_form.+item.Given as goal

abbrev pub decreases-item : goal.decreases-item
decreases-item l = 3 * size_of l.form.now + 2

abbrev pub decreases-listed_item : goal.decreases-listed_item
decreases-listed_item l = 3 * size_of (conses l.parts.now nil) + 1

abbrev pub decreases-all_items : goal.decreases-all_items
decreases-all_items l = 3 * most (λ y. size_of y + 1) l.forms.now

abbrev pub invariant-all_items-loop-place : goal.invariant-all_items-loop-place
invariant-all_items-loop-place l = record {
  within : l.place ≤ length l.forms;
  so_far : all_meant (item_meant l.texts) (reverse l.forms) ≡ left_of (item_meant l.texts) l.forms (map slotted_of l.all.items) l.place;
  behind : l.left + length (slots_in (map slotted_of l.all.items)) ≡ l.fn.left;
}

abbrev pub decreases-all_items-loop-place : goal.decreases-all_items-loop-place
decreases-all_items-loop-place l = l.place
