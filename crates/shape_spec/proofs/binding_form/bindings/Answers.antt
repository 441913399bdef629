use Rattle.std.proofs.Common.{ap, sym}
use Rattle.shape_spec.specs.BindingsMeant.{bindings_meant}
use Rattle.shape_spec.proofs.Fits.{gives_at}
use Rattle.shape_spec.proofs.BindingSteps.{form_none}
use Rattle.shape_spec.proofs.binding_form.bindings.Goals as goal

pub returns-in-Some : goal.returns-in-Some
returns-in-Some c = gives_at (λ b. b) c.headed.result (ap (bindings_meant c.args.texts.now) (sym c.in-Some.ensures.proper)) c.headed.ensures

pub returns-in-None : goal.returns-in-None
returns-in-None c = form_none c.args.texts.now c.args.form.now c.in-None.ensures.elements
