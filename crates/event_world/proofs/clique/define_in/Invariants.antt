use Rattle.std.proofs.Common.{◌≡◌, false, map, drop}
use Rattle.event_world.specs.CliqueMeant.{owns_of, members_meant}
use Rattle.event_world.specs.FormsSeen.{made_seen}
use Rattle.event_world.proofs.MemberLists.{done_then}
use Rattle.event_world.proofs.clique.define_in.Given as goal

abbrev pub invariant-loop-form : goal.invariant-loop-form
invariant-loop-form l = record {
  texts : l.texts ≡ l.initial.texts;
  own : l.scope.own ≡ owns_of (map made_seen l.members);
  every : l.scope.every ≡ false;
  so_far : done_then l.all (members_meant l.initial.texts l.world (owns_of (map made_seen l.members)) (map made_seen (drop l.form-index l.members))) ≡ members_meant l.initial.texts l.world (owns_of (map made_seen l.members)) (map made_seen l.members);
}
