use Rattle.std.proofs.Common.{◌≡◌, ◌≤◌, replicate, vec_capacity}
use Rattle.node_table.proofs.chains.zero.Given as goal

abbrev pub invariant-loop : goal.invariant-loop
invariant-loop l = record {
  items : l.places.items ≡ replicate l.counter 0;
  room : vec_capacity l.fn.places ≤ vec_capacity l.places;
}
