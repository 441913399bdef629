use Rattle.std.proofs.Common.{◌≡◌, map, take}
use Rattle.event_world.specs.CliqueMeant.{owns_of}
use Rattle.event_world.specs.FormsSeen.{made_seen}
use Rattle.event_world.proofs.clique.owns.Given as goal

abbrev pub invariant-loop-member : goal.invariant-loop-member
invariant-loop-member l = l.own ≡ owns_of (map made_seen (take l.member-index l.members))
