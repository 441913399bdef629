use Rattle.std.proofs.Common.{◌≡◌, ◌≢◌, ℕ, ◌<◌, length}
use Rattle.hons_arena.specs.Hash.{free}
use Rattle.hons_arena.specs.Table.{slot_at, walk}
use Rattle.hons_arena.proofs.slots.first_free.Given as goal

abbrev pub invariant-loop-step : goal.invariant-loop-step
invariant-loop-step l = record {
  at : l.slot ≡ walk (length l.fingerprints) l.home l._step;
  within : l.slot < length l.fingerprints;
  passed : (i : ℕ) → i < l._step → slot_at l.fingerprints (walk (length l.fingerprints) l.home i) ≢ free;
}
