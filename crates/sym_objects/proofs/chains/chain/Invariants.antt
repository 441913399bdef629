use Rattle.std.proofs.Common.{◌≤◌, take, vec_capacity}
use Rattle.sym_objects.specs.Table.{IsChained}
use Rattle.sym_objects.proofs.chains.chain.Given as goal

abbrev pub invariant-loop-number : goal.invariant-loop-number
invariant-loop-number l = record {
  chained : IsChained l.count (take l.number l.nodes) l.next.items l.heads.items;
  next : vec_capacity l.fn.next ≤ vec_capacity l.next;
  heads : vec_capacity l.fn.heads ≤ vec_capacity l.heads;
}
