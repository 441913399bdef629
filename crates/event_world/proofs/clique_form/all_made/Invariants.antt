use Rattle.std.proofs.Common.{◌≡◌, map, drop}
use Rattle.gl_logic.specs.Wording.{all_meant}
use Rattle.event_world.specs.CliqueMeant.{made_member}
use Rattle.event_world.specs.FormsSeen.{stated_seen, made_seen}
use Rattle.event_world.proofs.Cursors.{behind}
use Rattle.event_world.proofs.clique_form.all_made.Given as goal

abbrev pub invariant-loop-member : goal.invariant-loop-member
invariant-loop-member l = behind (map made_seen l.all.items) (all_meant (made_member l.texts) (map stated_seen (drop l.member-index l.members))) ≡ all_meant (made_member l.texts) (map stated_seen l.members)
