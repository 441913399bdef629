use Rattle.std.proofs.Common.{◌≡◌, ◌+◌, ◌≤◌, take}
use Rattle.std.specs.List.{count_by}
use Rattle.std.specs.Prelude.{◌==◌}
use Rattle.lrat_tool.proofs.lines.last_line.Given as goal

abbrev pub invariant-loop-byte : goal.invariant-loop-byte
invariant-loop-byte l = record {
  lines : l.lines ≡ count_by (λ b. b == 10) (take l.byte-index l.text) + 1;
  few : l.lines ≤ l.byte-index + 1;
}
