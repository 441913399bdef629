use Rattle.std.proofs.Common.{◌≤◌}
use Rattle.lrat_tool.specs.Pieces.{Follow}
use Rattle.lrat_tool.proofs.checking.pieces_of.Given as goal

abbrev pub invariant-loop-done : goal.invariant-loop-done
invariant-loop-done l = record {
  order : l.first ≤ l.end;
  follow : Follow 0 l.pieces.items l.first;
}
