use Rattle.std.proofs.Common.{List, ◌++◌, map, take}
use Rattle.lrat_tool.specs.Held.{IsHeld}
use Rattle.lrat_tool.specs.Logs.{LogEntry}
use Rattle.lrat_tool.specs.Parts.{later}
use Rattle.lrat_tool.proofs.joining.put_entries.Given as goal

abbrev pub invariant-loop-k : goal.invariant-loop-k
invariant-loop-k l = (es ds : List LogEntry) → IsHeld l.first es l.fn.log → IsHeld l.first ds l.other → IsHeld l.first (es ++ map (later l.lines) (take l.k ds)) l.log
