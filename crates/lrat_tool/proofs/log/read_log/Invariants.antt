use Rattle.std.proofs.Common.{◌≡◌, ◌≤◌, ◌+◌, ◌-◌, List, length}
use Rattle.lrat_tool.specs.Held.{IsHeld, last_id}
use Rattle.lrat_tool.specs.Logs.{LogEntry, entries_from, log_meant}
use Rattle.lrat_tool.proofs.LogLines.{behind, lines_from}
use Rattle.lrat_tool.proofs.log.read_log.Given as goal

abbrev pub invariant-loop-at : goal.invariant-loop-at
invariant-loop-at l = record {
  at : l.at ≤ length l.text + 1;
  number : l.number ≤ l.at + 1;
  read : (es : List LogEntry) × IsHeld l.first es l.log × (log_meant l.first l.text ≡ behind es (entries_from l.number (lines_from l.text l.at) (last_id l.first l.log.ids.items)));
}

abbrev pub decreases-loop-at : goal.decreases-loop-at
decreases-loop-at l = length l.text + 1 - l.at
