use Rattle.std.proofs.Common.{◌∙◌, map}
use Rattle.event_world.specs.FormsSeen.{cases_form_seen, case_form_seen}
use Rattle.event_world.proofs.KeptNames.{kept_same}
use Rattle.event_world.proofs.parameters.are_kept.Goals as goal

pub returns : goal.returns
returns c = c.all_without.ensures ∙ kept_same _ _ c.in_ok-names.ensures (cases_form_seen c.args.form.now) (map case_form_seen c.args.cases.now)
