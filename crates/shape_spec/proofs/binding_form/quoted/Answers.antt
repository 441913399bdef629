use Rattle.std.proofs.Common.{◌∙◌, ap, sym}
use Rattle.std.specs.Option.{option_and_then}
use Rattle.gl_logic.specs.Wording.{all_meant}
use Rattle.shape_spec.specs.BindingsMeant.{checked, entry_meant}
use Rattle.shape_spec.proofs.Fits.{gives_at}
use Rattle.shape_spec.proofs.BindingSteps.{not_one, one_list}
use Rattle.shape_spec.proofs.binding_form.quoted.Goals as goal

pub returns-then-rest-ne1 : goal.returns-then-rest-ne1
returns-then-rest-ne1 c = ap (checked c.args.texts.now) (not_one c.args.texts.now c.args.quasi c.args.rest.now c.if-rest-ne1.true)

pub returns-in-Some : goal.returns-in-Some
returns-in-Some c =
    gives_at (λ b. b) c.listed.result
    (sym (ap (checked c.args.texts.now) (one_list c.args.texts.now c.args.quasi c.args.rest.now c.index-rest-0.result c.if-rest-ne1.false c.index-rest-0.is
    ∙ ap (option_and_then (all_meant (entry_meant c.args.texts.now c.args.quasi))) c.in-Some.ensures.elements)))
    c.listed.ensures

pub returns-in-None : goal.returns-in-None
returns-in-None c =
    ap (checked c.args.texts.now) (one_list c.args.texts.now c.args.quasi c.args.rest.now c.index-rest-0.result c.if-rest-ne1.false c.index-rest-0.is
    ∙ ap (option_and_then (all_meant (entry_meant c.args.texts.now c.args.quasi))) c.in-None.ensures.elements)
