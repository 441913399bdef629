use Rattle.std.proofs.Common.{◌≡◌, map, take}
use Rattle.event_world.specs.FormsSeen.{defun_seen}
use Rattle.event_world.proofs.clique_form.names.Given as goal

abbrev pub invariant-loop-member : goal.invariant-loop-member
invariant-loop-member l = l.all ≡ map (λ d. d.name) (map defun_seen (take l.member-index l.members))
