use Rattle.std.proofs.Common.{◌≡◌, ℕ, map, take}
use Rattle.gl_logic.specs.Object.{Object}
use Rattle.event_world.proofs.keywords.Keywords.names.Given as goal

abbrev pub invariant-loop-item : goal.invariant-loop-item
invariant-loop-item l = l.all ≡ map (λ (q : ℕ × Object). q.0) (map (λ p. (p.0.number, p.1.now)) (take l.item-index l.item-items))
