use Rattle.std.proofs.Common.{◌≡◌, map, drop}
use Rattle.std.specs.List.{list_all}
use Rattle.event_world.specs.CliqueForms.{is_new}
use Rattle.event_world.specs.FormsSeen.{stated_seen}
use Rattle.event_world.proofs.clique_form.are_new.Given as goal

abbrev pub invariant-loop-member : goal.invariant-loop-member
invariant-loop-member l = list_all (is_new l.texts l.world) (map stated_seen (drop l.member-index l.members)) ≡ list_all (is_new l.texts l.world) (map stated_seen l.members)
