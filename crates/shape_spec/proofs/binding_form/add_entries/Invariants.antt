use Rattle.std.proofs.Common.{◌≡◌, ◌+◌, ◌≤◌, length, reverse, true}
use Rattle.std.specs.List.{list_all}
use Rattle.shape_spec.specs.Indices.{variables_of, width_of, IsBindings}
use Rattle.gl_logic.specs.Wording.{is_legal, all_meant}
use Rattle.shape_spec.specs.BindingsMeant.{entry_meant}
use Rattle.shape_spec.proofs.InReverse.{left_of}
use Rattle.shape_spec.proofs.binding_form.add_entries.Given as goal

abbrev pub invariant-loop-place : goal.invariant-loop-place
invariant-loop-place l =
    let f = entry_meant l.setting.texts.now l.setting.quasi in
    record {
      within : l.place ≤ length l.entries;
      so_far : all_meant f (reverse l.entries) ≡ left_of f l.entries l.all l.place;
      proper : IsBindings l.all;
      left : l.left + width_of l.all ≡ 1024;
      legal : list_all (is_legal l.setting.texts.now) (variables_of l.all) ≡ true;
      seen : l.seen ≡ variables_of l.all;
    }

abbrev pub decreases-loop-place : goal.decreases-loop-place
decreases-loop-place l = l.place
