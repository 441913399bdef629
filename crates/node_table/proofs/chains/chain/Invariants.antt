use Rattle.std.proofs.Common.{◌≤◌, map, take, vec_capacity}
use Rattle.node_table.specs.Chains.{IsChained}
use Rattle.node_table.proofs.chains.chain.Given as goal

abbrev pub invariant-loop-number : goal.invariant-loop-number
invariant-loop-number g l = record {
  chained : IsChained l.count (map g.N.Interned.hash_of (take l.number l.nodes)) l.next.items l.heads.items;
  next : vec_capacity l.fn.next ≤ vec_capacity l.next;
  heads : vec_capacity l.fn.heads ≤ vec_capacity l.heads;
}
