use Rattle.std.proofs.Common.{◌≡◌, ℕ, ◌+◌, ◌-◌, ◌≤◌, length}
use Rattle.gl_logic.specs.Named.{place_in}
use Rattle.gl_logic.proofs.name_index.NameIndex.reserve.Given as goal

abbrev pub invariant-loop-name : goal.invariant-loop-name
invariant-loop-name l = (length l.fn.self ≤ length l.self-inside.places.items) × ((other : ℕ) → place_in l.self-inside.places.items other ≡ place_in l.fn.self other)

abbrev pub decreases-loop-name : goal.decreases-loop-name
decreases-loop-name l = l.name.number + 1 - length l.self-inside.places.items
