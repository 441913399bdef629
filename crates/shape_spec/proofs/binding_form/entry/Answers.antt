use Rattle.std.proofs.Common.{ap, sym, List, Option}
use Rattle.gl_logic.specs.Object.{Object}
use Rattle.shape_spec.specs.BindingsMeant.{entry_of}
use Rattle.shape_spec.specs.Gives.{entry_within, entry_left}
use Rattle.shape_spec.proofs.Fits.{gives_at}
use Rattle.shape_spec.proofs.binding_form.entry.Goals as goal

pub returns-in-Some : goal.returns-in-Some
returns-in-Some c =
    gives_at entry_left c.listed_entry.result
    (ap (λ (o : Option (List Object)). entry_within c.args.left (entry_of c.args.setting.now.texts.now c.args.setting.now.quasi o)) (sym c.in-Some.ensures.elements))
    c.listed_entry.ensures

pub returns-in-None : goal.returns-in-None
returns-in-None c = ap (λ (o : Option (List Object)). entry_within c.args.left (entry_of c.args.setting.now.texts.now c.args.setting.now.quasi o)) c.in-None.ensures.elements
