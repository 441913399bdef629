use Rattle.std.proofs.Common.{◌≡◌, map, drop}
use Rattle.event_world.specs.Keywords.{value_of}
use Rattle.event_world.proofs.keywords.Keywords.value.Given as goal

abbrev pub invariant-loop-item : goal.invariant-loop-item
invariant-loop-item l = value_of l.texts l.text (map (λ p. (p.0.number, p.1.now)) (drop l.item-index l.item-items)) ≡ value_of l.texts l.text l.self
