use Rattle.std.proofs.Common.{◌≡◌, ◌≤◌, ◌++◌, length, map, take}
use Rattle.std.specs.List.{All}
use Rattle.lrat_tool.specs.Parts.{lines_in, lines_joined}
use Rattle.lrat_tool.specs.Words.{lines_of}
use Rattle.lrat_tool.proofs.parts.parts_of.Given as goal

abbrev pub invariant-loop-done : goal.invariant-loop-done
invariant-loop-done l = record {
  end : l.end ≤ length l.text;
  within : All (λ p. p.end ≤ length l.text) l.parts.items;
  lines : lines_of (take l.end l.text) ++ lines_joined (map (lines_in l.text) l.parts.items) ≡ lines_of l.text;
}
