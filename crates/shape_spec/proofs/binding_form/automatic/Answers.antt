use Rattle.std.proofs.Common.{◌∙◌, ap, sym, map, reverse, List, Some}
use Rattle.std.proofs.lemmas.Result.{err_from_is_err_and}
use Rattle.gl_logic.specs.Wording.{all_meant}
use Rattle.shape_spec.specs.ItemsMeant.{Slotted, item_meant, in_sequence, placed}
use Rattle.shape_spec.specs.BindingsMeant.{checked}
use Rattle.shape_spec.specs.Gives.{all_within, slotted_of}
use Rattle.shape_spec.specs.declared.item_form.Items.{Items}
use Rattle.shape_spec.proofs.Fits.{gives_at, gives_err, refuses_none}
use Rattle.shape_spec.proofs.BindingSteps.{few_slots, many_slots}
use Rattle.shape_spec.proofs.binding_form.automatic.Goals as goal

pub returns : goal.returns
returns c =
    let names = c.args.texts.now in
    let whole = c.in_ok-whole.ensures ∙ ap (λ (is : List Items). in_sequence (map slotted_of is)) c.as_slice.ensures.value in
    gives_at (λ b. b) c.placed.result
    (ap (λ (s : Slotted). checked names (Some (placed s))) whole
    ∙ sym (few_slots names (all_meant (item_meant names) (reverse c.args.rest.now)) (map slotted_of c.in_ok-all.all.items) c.in_ok-all.ensures))
    c.placed.ensures

pub returns-in_err-all : goal.returns-in_err-all
returns-in_err-all c =
    let names = c.args.texts.now in
    gives_err (λ b. b) c.from_residual.result c.in_err-all.field-0.0 _ (err_from_is_err_and c.from_residual.result c.from_residual.ensures.1)
    (refuses_none c.in_err-all.field-0.0 (all_within 1024 (all_meant (item_meant names) (reverse c.args.rest.now))) _ (many_slots names (all_meant (item_meant names) (reverse c.args.rest.now))) c.in_err-all.ensures)
