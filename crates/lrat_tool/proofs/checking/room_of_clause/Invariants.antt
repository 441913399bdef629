use Rattle.std.proofs.Common.{◌≤◌, ◌<◌, ◌^◌, take}
use Rattle.cnf_rup.specs.Marked.{AreWithin}
use Rattle.lrat_tool.proofs.checking.room_of_clause.Given as goal

abbrev pub invariant-loop-literal : goal.invariant-loop-literal
invariant-loop-literal l = record {
  least : l.fn.least ≤ l.room;
  within : AreWithin l.room (take l.literal-index l.clause);
  most : l.room < 2 ^ 33;
}
