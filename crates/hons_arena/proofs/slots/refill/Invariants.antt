use Rattle.std.proofs.Common.{◌≡◌, ◌≤◌, length, take}
use Rattle.std.specs.Vec.{vec_capacity}
use Rattle.hons_arena.specs.Table.{IsTable, IsMarked}
use Rattle.hons_arena.proofs.slots.refill.Given as goal

abbrev pub invariant-loop-number : goal.invariant-loop-number
invariant-loop-number l = record {
  table : IsTable (take l.number l.cells) l.slots.items;
  marked : IsMarked (take l.number l.cells) l.slots.items l.fingerprints.items;
  size : length l.slots.items ≡ l.size;
  capacity : vec_capacity l.fn.slots ≤ vec_capacity l.slots;
  capacity_beside : vec_capacity l.fn.fingerprints ≤ vec_capacity l.fingerprints;
}
