use Rattle.std.proofs.Common.{◌≡◌, ℕ, ◌<◌, length}
use Rattle.hons_arena.specs.Hash.{home_of}
use Rattle.hons_arena.specs.Table.{walk}
use Rattle.hons_arena.proofs.Walks.{IsPassed}
use Rattle.hons_arena.proofs.probe.end_of_walk.Given as goal

abbrev pub invariant-loop-step : goal.invariant-loop-step
invariant-loop-step l = record {
  home : home_of (length l.slots) l.cell < length l.slots;
  at : l.slot ≡ walk (length l.slots) (home_of (length l.slots) l.cell) l._step;
  within : l.slot < length l.slots;
  passed : (i : ℕ) → i < l._step → IsPassed l.cells l.slots l.cell i;
}
