use Rattle.std.proofs.Common.{◌≤◌, ◌<◌, ◌^◌, take, All}
use Rattle.cnf_rup.specs.Marked.{AreWithin}
use Rattle.lrat_tool.proofs.checking.room_of.Given as goal

abbrev pub invariant-loop-k : goal.invariant-loop-k
invariant-loop-k l = record {
  least : l.fn.least ≤ l.room;
  within : All (AreWithin l.room) (take l.k l.clauses.lists);
  most : l.room < 2 ^ 33;
}
