-- The words for what became of an event, and which verdicts ask for a look.
use Rattle.std.specs.Prelude.{ℕ, Bool, true, false, List, Option, Some, None, codes}
use Rattle.explain_report.specs.declared.record.Verdict.{Verdict}
use Rattle.explain_report.specs.declared.record.Verdict.TheVariants as verdict
use Rattle.explain_report.specs.declared.record.Cause.{Cause}
use Rattle.explain_report.specs.declared.record.Cause.TheVariants as cause

abbrev pub verdict_word : Verdict → List ℕ
verdict_word verdict.Proved = codes "proved"
verdict_word verdict.Vacuous = codes "vacuous"
verdict_word verdict.Refuted = codes "refuted"
verdict_word verdict.Undecided = codes "undecided"
verdict_word verdict.Refused = codes "refused"
verdict_word verdict.Failed = codes "nil"
verdict_word verdict.Holds = codes "ok"
verdict_word verdict.Value = codes "value"
verdict_word verdict.Taken = codes "taken"
verdict_word verdict.Mark = codes "book"
verdict_word verdict.Done = codes "done"

abbrev pub cause_word : Cause → List ℕ
cause_word (cause.Uncovered i v) = codes "uncovered"
cause_word cause.Uncased = codes "uncased"
cause_word cause.Nodes = codes "nodes"
cause_word cause.Clauses = codes "clauses"
cause_word cause.Clock = codes "clock"
cause_word cause.Width = codes "width"
cause_word cause.Steps = codes "steps"
cause_word cause.Cells = codes "cells"
cause_word cause.Size = codes "size"
cause_word cause.Memory = codes "memory"

-- the word for what leaves an event open: why it is undecided, or that it is refused
abbrev pub lack_word : Verdict → Option Cause → Option (List ℕ)
lack_word verdict.Undecided (Some c) = Some (cause_word c)
lack_word verdict.Refused c = Some (codes "refused")
lack_word _ _ = None

-- the verdict asks for a look
abbrev pub asks_for_look : Verdict → Bool
asks_for_look verdict.Vacuous = true
asks_for_look verdict.Refuted = true
asks_for_look verdict.Undecided = true
asks_for_look verdict.Refused = true
asks_for_look verdict.Failed = true
asks_for_look _ = false

-- the verdict is that of an event: its line is no mark of a book, and not the last one
abbrev pub tells_event : Verdict → Bool
tells_event verdict.Mark = false
tells_event verdict.Done = false
tells_event _ = true
