use Rattle.std.proofs.Common.{◌≡◌, map, drop}
use Rattle.gl_logic.specs.Wording.{all_meant}
use Rattle.event_world.specs.CliqueMeant.{stated_member}
use Rattle.event_world.specs.FormsSeen.{defun_seen, stated_seen}
use Rattle.event_world.proofs.Cursors.{behind}
use Rattle.event_world.proofs.clique_form.all_stated.Given as goal

abbrev pub invariant-loop-member : goal.invariant-loop-member
invariant-loop-member l = behind (map stated_seen l.all.items) (all_meant (stated_member l.texts) (map defun_seen (drop l.member-index l.members))) ≡ all_meant (stated_member l.texts) (map defun_seen l.members)
