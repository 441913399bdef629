use Rattle.std.proofs.Common.{◌≡◌, ◌≢◌, ℕ, ◌<◌, length}
use Rattle.hons_arena.specs.Table.{slot_at, walk}
use Rattle.hons_arena.proofs.slots.slot_with.Given as goal

abbrev pub invariant-loop-step : goal.invariant-loop-step
invariant-loop-step l = record {
  at : l.slot ≡ walk (length l.slots) l.home l._step;
  within : l.slot < length l.slots;
  passed : (i : ℕ) → i < l._step → slot_at l.slots (walk (length l.slots) l.home i) ≢ l.number;
}
