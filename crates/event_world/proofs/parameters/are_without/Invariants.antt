use Rattle.std.proofs.Common.{◌≡◌, map, drop}
use Rattle.event_world.specs.CasesForms.{are_without}
use Rattle.event_world.specs.FormsSeen.{case_form_seen}
use Rattle.event_world.proofs.parameters.are_without.Given as goal

abbrev pub invariant-loop-case : goal.invariant-loop-case
invariant-loop-case l = are_without l.names (map case_form_seen (drop l.case-index l.cases)) ≡ are_without l.names (map case_form_seen l.cases)
