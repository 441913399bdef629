use Rattle.std.proofs.Common.{◌≡◌, ◌≤◌, ◌<◌, ◌-◌, ◌^◌, length}
use Rattle.cnf_rup.specs.Marked.{AreMarked}
use Rattle.cnf_rup.proofs.trail.Trail.widen.Given as goal

abbrev pub invariant-loop-self : goal.invariant-loop-self
invariant-loop-self l = record {
  marked : AreMarked l.self-inside.marks.items l.self-inside.literals.items;
  literals : l.self-inside.literals.items ≡ l.fn.self.literals;
  room : l.fn.self.room ≤ length l.self-inside.marks.items;
  small : length l.self-inside.marks.items < 2 ^ 32;
}

abbrev pub decreases-loop-self : goal.decreases-loop-self
decreases-loop-self l = l.room - length l.self-inside.marks.items
